-- `Outcome` by cases: a value's outcome is that of its payload, and a list has at most one.
use Rattle.std.proofs.Common.{◌≡◌, ℕ, zero, suc, List, [], ◌∷◌, ◌++◌, Option, Some, None, MatchOption, refl, sym, ap, ap₂, ◌∙◌, subst, arith}
use Rattle.amqp_value_core.specs.declared.types.amqp_type.AMQPType.{AMQPType}
use Rattle.amqp_value_core.specs.Values.{Tree}
use Rattle.amqp_value_core.specs.Ids.{kind}
use Rattle.amqp_value_core.specs.Grammar.{Wire, wire, Raw}
use Rattle.amqp_value_core.specs.Outcomes.{Reading, found, more, unknown, malformed, lack, RawOutcomeBy, OutcomeBy, no_byte, no_tag, needs_more, at_start, not_at_start, Outcome, RawHeavy, Heavy, RawOutcome}
use Rattle.amqp_value_core.proofs.Bytes.{one_held}
use Rattle.amqp_value_core.proofs.Headers.{lack-raw}
use Rattle.amqp_value_core.proofs.Unique.{one_reading, one_raw_reading}

-- ---- of any P

-- an outcome by cases: n more bytes are needed, or if n is 0 P decides
abbrev pub NeedsMoreOr : ℕ → Type 0 → Reading → Type 0
NeedsMoreOr zero P o = P
NeedsMoreOr (suc n) P o = o ≡ more (suc n)

-- P holds of a prefix of s and what is found, or of no prefix and no value
abbrev pub PrefixBy : (List ℕ → Tree → Type 0) → List ℕ → Reading → Type 0
PrefixBy P s (found v rest) = (b : List ℕ) × P b v × (s ≡ b ++ rest)
PrefixBy P s malformed = (b rest : List ℕ) (v : Tree) → P b v → s ≡ b ++ rest → ⊥
PrefixBy P s _ = ⊥

-- a prefix of s is a payload of the type, or no prefix is
abbrev pub RawPrefix : AMQPType → List ℕ → Reading → Type 0
RawPrefix type s o = PrefixBy (Raw type) s o

-- if no byte is missing, what P decides Q does
pub NeedsMoreOr-weaker : (n : ℕ) (P Q : Type 0) (o : Reading) → (P → Q) → NeedsMoreOr n P o → NeedsMoreOr n Q o
NeedsMoreOr-weaker zero P Q o f x = f x
NeedsMoreOr-weaker (suc n) P Q o f x = x

-- a complete payload results in what its prefix decides
pub raw_whole_by : (P : List ℕ → Tree → Type 0) (type : AMQPType) (s : List ℕ) (o : Reading) → lack type s ≡ 0 → PrefixBy P s o → RawOutcomeBy P type s o
raw_whole_by P type s (found v rest) whole f = f
raw_whole_by P type s malformed whole f = (whole, f)
raw_whole_by P type s (more n) whole f = absurd f
raw_whole_by P type s unknown whole f = f

-- the outcome of reading a payload by what is missing is the outcome
pub raw_from_cases : (P : List ℕ → Tree → Type 0) (type : AMQPType) (s : List ℕ) (o : Reading) → NeedsMoreOr (lack type s) (PrefixBy P s o) o → RawOutcomeBy P type s o
raw_from_cases P type s o x = by (lack type s) refl x
  where
    by : (n : ℕ) → lack type s ≡ n → NeedsMoreOr n (PrefixBy P s o) o → RawOutcomeBy P type s o
    by zero e f = raw_whole_by P type s o e f
    by (suc n) e is = subst (RawOutcomeBy P type s) (sym is) (omega arith, e)

-- and the other way round, if P holds only of payloads of the type
pub raw_to_cases : (P : List ℕ → Tree → Type 0) (type : AMQPType) → ((b : List ℕ) (v : Tree) → P b v → Raw type b v) → (s : List ℕ) (o : Reading) → RawOutcomeBy P type s o
    → NeedsMoreOr (lack type s) (PrefixBy P s o) o
raw_to_cases P type raw s o x = by o x
  where
    at : (o : Reading) (n : ℕ) → lack type s ≡ n → NeedsMoreOr n (PrefixBy P s o) o → NeedsMoreOr (lack type s) (PrefixBy P s o) o
    at o n e y = subst (λ (m : ℕ). NeedsMoreOr m (PrefixBy P s o) o) (sym e) y

    by : (o : Reading) → RawOutcomeBy P type s o → NeedsMoreOr (lack type s) (PrefixBy P s o) o
    by (found v rest) (b, p, is) = at (found v rest) 0 (ap (lack type) is ∙ lack-raw type b rest v (raw b v p)) (b, p, is)
    by (more zero) (some, e) = absurd (omega arith)
    by (more (suc n)) (some, e) = at (more (suc n)) (suc n) e refl
    by malformed (e, none) = at malformed 0 e none
    by unknown x = absurd x

pub prefix_found : (P : List ℕ → Tree → Type 0) (s rest : List ℕ) (v : Tree) → OutcomeBy P s (found v rest) → PrefixBy P s (found v rest)
prefix_found P _ _ _ (at_start w rest v p) = (w, p, refl)

-- the outcome of reading c and b by cases, if k is what c denotes
abbrev OutcomeAt : (List ℕ → Tree → Type 0) → List ℕ → Reading → ℕ → Option AMQPType → Type 0
OutcomeAt P b o c k = MatchOption k (o ≡ unknown) (λ type. NeedsMoreOr (lack type b) (PrefixBy P (c ∷ b) o) o)

-- the outcome by cases: by what the first byte denotes, and then by what is missing
abbrev pub OutcomeByCases : (List ℕ → Tree → Type 0) → List ℕ → Reading → Type 0
OutcomeByCases P [] o = o ≡ more 1
OutcomeByCases P (c ∷ b) o = OutcomeAt P b o c (kind c)

-- it is the outcome
pub from_cases : (P : List ℕ → Tree → Type 0) (s : List ℕ) (o : Reading) → OutcomeByCases P s o → OutcomeBy P s o
from_cases P [] o is = subst (OutcomeBy P []) (sym is) no_byte
from_cases P (c ∷ b) o x = at_kind (kind c) refl x
  where
    whole : (type : AMQPType) (o : Reading) → kind c ≡ Some type → lack type b ≡ 0 → PrefixBy P (c ∷ b) o → OutcomeBy P (c ∷ b) o
    whole type (found v rest) k e (w, p, is) = subst (λ (s : List ℕ). OutcomeBy P s (found v rest)) (sym is) (at_start w rest v p)
    whole type malformed k e f = not_at_start c type b k e f
    whole type (more n) k e f = absurd f
    whole type unknown k e f = absurd f

    at_lack : (type : AMQPType) (n : ℕ) → kind c ≡ Some type → lack type b ≡ n → NeedsMoreOr n (PrefixBy P (c ∷ b) o) o → OutcomeBy P (c ∷ b) o
    at_lack type zero k e f = whole type o k e f
    at_lack type (suc n) k e is = subst (OutcomeBy P (c ∷ b)) (sym is) (needs_more c type b n k e)

    at_kind : (k : Option AMQPType) → kind c ≡ k → OutcomeAt P b o c k → OutcomeBy P (c ∷ b) o
    at_kind None k is = subst (OutcomeBy P (c ∷ b)) (sym is) (no_tag c b k)
    at_kind (Some type) k y = at_lack type (lack type b) k refl y

-- with what c denotes and b lacks, that is decided
at_cases : (P : List ℕ → Tree → Type 0) (c : ℕ) (type : AMQPType) (b : List ℕ) (o : Reading) (n : ℕ) → kind c ≡ Some type → lack type b ≡ n
    → NeedsMoreOr n (PrefixBy P (c ∷ b) o) o → OutcomeByCases P (c ∷ b) o
at_cases P c type b o n k e x = subst (OutcomeAt P b o c) (sym k) (subst (λ (m : ℕ). NeedsMoreOr m (PrefixBy P (c ∷ b) o) o) (sym e) x)

start_cases : (P : List ℕ → Tree → Type 0) (w rest : List ℕ) (v : Tree) → P w v → Wire w v → OutcomeByCases P (w ++ rest) (found v rest)
start_cases P _ rest _ p (wire c type b v k raw) = at_cases P c type (b ++ rest) (found v rest) 0 k (lack-raw type b rest v raw) (c ∷ b, p, refl)

-- and the outcome is by cases, if P holds only of encodings
pub to_cases : (P : List ℕ → Tree → Type 0) → ((w : List ℕ) (v : Tree) → P w v → Wire w v) → (s : List ℕ) (o : Reading) → OutcomeBy P s o → OutcomeByCases P s o
to_cases P wires _ _ no_byte = refl
to_cases P wires _ _ (no_tag c b k) = subst (OutcomeAt P b unknown c) (sym k) refl
to_cases P wires _ _ (needs_more c type b n k e) = at_cases P c type b (more (suc n)) (suc n) k e refl
to_cases P wires _ _ (at_start w rest v p) = start_cases P w rest v p (wires w v p)
to_cases P wires _ _ (not_at_start c type b k e none) = at_cases P c type b malformed 0 k e none

-- if P holds of payloads of the type, and Q of these after c, which denotes it, reading a type tag
-- and then its payload is reading the value
pub raw_to_value_by : (P Q : List ℕ → Tree → Type 0) (c : ℕ) (type : AMQPType) → kind c ≡ Some type → ((p : List ℕ) (v : Tree) → P p v → Q (c ∷ p) v) → (b : List ℕ)
    → ((w rest : List ℕ) (v : Tree) → Q w v → c ∷ b ≡ w ++ rest → (p : List ℕ) × P p v × (b ≡ p ++ rest)) → (o : Reading) → RawOutcomeBy P type b o → OutcomeBy Q (c ∷ b) o
raw_to_value_by P Q c type k tagged b untagged (found v rest) (p, q, is) = subst (λ (t : List ℕ). OutcomeBy Q (c ∷ t) (found v rest)) (sym is) (at_start (c ∷ p) rest v (tagged p v q))
raw_to_value_by P Q c type k tagged b untagged (more zero) (some, e) = absurd (omega arith)
raw_to_value_by P Q c type k tagged b untagged (more (suc n)) (some, e) = needs_more c type b n k e
raw_to_value_by P Q c type k tagged b untagged malformed (e, none) =
    not_at_start c type b k e (λ w rest v q is. let r = untagged w rest v q is in none r.0 rest v r.1 r.2)
raw_to_value_by P Q c type k tagged b untagged unknown x = absurd x

module _ (P Q : List ℕ → Tree → Type 0) (c : ℕ) (type : AMQPType) (k : kind c ≡ Some type) (tagged : (p : List ℕ) (v : Tree) → P p v → Q (c ∷ p) v) (b : List ℕ)
    (untagged : (w rest : List ℕ) (v : Tree) → Q w v → c ∷ b ≡ w ++ rest → (p : List ℕ) × P p v × (b ≡ p ++ rest)) (o : Reading) where
  -- and the other way round
  raw_from_prefix : (o : Reading) → PrefixBy Q (c ∷ b) o → PrefixBy P b o
  raw_from_prefix (found v rest) f = untagged f.0 rest v f.1 f.2
  raw_from_prefix malformed f = λ p rest v q e. f (c ∷ p) rest v (tagged p v q) (ap (λ (t : List ℕ). c ∷ t) e)
  raw_from_prefix (more n) f = absurd f
  raw_from_prefix unknown f = absurd f

  -- and the other way round
  pub value_to_raw_by : ((w : List ℕ) (v : Tree) → Q w v → Wire w v) → OutcomeBy Q (c ∷ b) o → RawOutcomeBy P type b o
  value_to_raw_by wires x =
      raw_from_cases P type b o
      (NeedsMoreOr-weaker (lack type b) (PrefixBy Q (c ∷ b) o) (PrefixBy P b o) o (raw_from_prefix o) (subst (OutcomeAt Q b o c) k (to_cases Q wires (c ∷ b) o x)))

-- a list has one prefix of which P holds, with one meaning
abbrev pub HasOnePrefix : (List ℕ → Tree → Type 0) → Type 0
HasOnePrefix P = (b c x y : List ℕ) (v u : Tree) → P b v → P c u → b ++ x ≡ c ++ y → (b ≡ c) × (v ≡ u) × (x ≡ y)

-- so it decides one outcome
one_prefix_outcome : (P : List ℕ → Tree → Type 0) → HasOnePrefix P → (s : List ℕ) (o p : Reading) → PrefixBy P s o → PrefixBy P s p → o ≡ p
one_prefix_outcome P one s (found v rest) (found u left) f g =
    let same = one f.0 g.0 rest left v u f.1 g.1 (sym f.2 ∙ g.2) in
    ap₂ found same.1 same.2
one_prefix_outcome P one s (found v rest) malformed f g = absurd (g f.0 rest v f.1 f.2)
one_prefix_outcome P one s malformed (found v rest) f g = absurd (f g.0 rest v g.1 g.2)
one_prefix_outcome P one s malformed malformed f g = refl
one_prefix_outcome P one s (more n) p f g = absurd f
one_prefix_outcome P one s unknown p f g = absurd f
one_prefix_outcome P one s o (more n) f g = absurd g
one_prefix_outcome P one s o unknown f g = absurd g

one_unless : (P : List ℕ → Tree → Type 0) → HasOnePrefix P → (n : ℕ) (s : List ℕ) (o p : Reading) → NeedsMoreOr n (PrefixBy P s o) o → NeedsMoreOr n (PrefixBy P s p) p → o ≡ p
one_unless P one zero s o p f g = one_prefix_outcome P one s o p f g
one_unless P one (suc n) s o p f g = f ∙ sym g

one_at : (P : List ℕ → Tree → Type 0) → HasOnePrefix P → (c : ℕ) (b : List ℕ) (o p : Reading) (k : Option AMQPType) → OutcomeAt P b o c k → OutcomeAt P b p c k → o ≡ p
one_at P one c b o p None f g = f ∙ sym g
one_at P one c b o p (Some type) f g = one_unless P one (lack type b) (c ∷ b) o p f g

pub one_outcome_by : (P : List ℕ → Tree → Type 0) → HasOnePrefix P → ((w : List ℕ) (v : Tree) → P w v → Wire w v)
    → (s : List ℕ) (o p : Reading) → OutcomeBy P s o → OutcomeBy P s p → o ≡ p
one_outcome_by P one wires s o p x y = cases s (to_cases P wires s o x) (to_cases P wires s p y)
  where
    cases : (s : List ℕ) → OutcomeByCases P s o → OutcomeByCases P s p → o ≡ p
    cases [] x y = x ∙ sym y
    cases (c ∷ b) x y = one_at P one c b o p (kind c) x y

-- ---- a value and its payload

-- an encoding at the start of c and b, if c is a type tag: a payload of c's type is at the start
-- of b
pub raw_of_wire : (c : ℕ) (type : AMQPType) (b w rest : List ℕ) (v : Tree) → kind c ≡ Some type → Wire w v → c ∷ b ≡ w ++ rest
    → (p : List ℕ) × Raw type p v × (b ≡ p ++ rest)
raw_of_wire c type b _ rest _ k (wire d type2 p v k2 q) e =
    let head : c ≡ d = cc in
    let same : type2 ≡ type = one_held (kind c) type2 type (ap kind head ∙ k2) k in
    (p, subst (λ (t : AMQPType). Raw t p v) same q, cc)

-- reading a type tag and then its payload is reading the value
pub raw_to_value : (c : ℕ) (type : AMQPType) (b : List ℕ) (o : Reading) → kind c ≡ Some type → RawOutcome type b o → Outcome (c ∷ b) o
raw_to_value c type b o k x = raw_to_value_by (Raw type) Wire c type k (λ p v q. wire c type p v k q) b (λ w rest v p e. raw_of_wire c type b w rest v k p e) o x

-- and the other way round
pub value_to_raw : (c : ℕ) (type : AMQPType) (b : List ℕ) (o : Reading) → kind c ≡ Some type → Outcome (c ∷ b) o → RawOutcome type b o
value_to_raw c type b o k x = value_to_raw_by (Raw type) Wire c type k (λ p v q. wire c type p v k q) b (λ w rest v p e. raw_of_wire c type b w rest v k p e) o (λ w v p. p) x

-- a value allocates if its payload does
pub raw_to_heavy : (c : ℕ) (type : AMQPType) (b : List ℕ) → kind c ≡ Some type → RawHeavy type b → Heavy (c ∷ b)
raw_to_heavy c type b k x = subst (λ (k : Option AMQPType). MatchOption k ⊥ (λ type. RawHeavy type b)) (sym k) x

-- ---- complete length-prefixed fields

-- a complete length-prefixed field results in what its prefix decides
pub raw_whole : (type : AMQPType) (s : List ℕ) (o : Reading) → lack type s ≡ 0 → RawPrefix type s o → RawOutcome type s o
raw_whole type s o whole f = raw_whole_by (Raw type) type s o whole f

-- a payload is found at the start
pub raw_found : (type : AMQPType) (b rest : List ℕ) (v : Tree) → Raw type b v → RawOutcome type (b ++ rest) (found v rest)
raw_found type b rest v p = raw_whole type (b ++ rest) (found v rest) (lack-raw type b rest v p) (b, p, refl)

-- an encoding is found at the start
pub wire_found : (w rest : List ℕ) (v : Tree) → Wire w v → Outcome (w ++ rest) (found v rest)
wire_found _ rest _ (wire c type b v k p) = raw_to_value c type (b ++ rest) (found v rest) k (raw_found type b rest v p)

-- ---- one outcome

-- reading a payload results in one outcome
pub one_raw_outcome : (type : AMQPType) (s : List ℕ) (o p : Reading) → RawOutcome type s o → RawOutcome type s p → o ≡ p
one_raw_outcome type s o p x y =
    one_unless (Raw type) (one_raw_reading type) (lack type s) s o p (raw_to_cases (Raw type) type (λ b v q. q) s o x) (raw_to_cases (Raw type) type (λ b v q. q) s p y)

-- reading a value results in one outcome
pub one_outcome : (s : List ℕ) (o p : Reading) → Outcome s o → Outcome s p → o ≡ p
one_outcome s o p x y = one_outcome_by Wire one_reading (λ w v p. p) s o p x y
