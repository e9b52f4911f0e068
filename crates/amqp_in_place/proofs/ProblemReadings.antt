-- `first_problem` by `Rules::Reading`: there is none exactly if a value is read (`reads_if_none`),
-- and otherwise it says how reading fails (`fails_if_some`).
use Rattle.std.proofs.Common.{◌≡◌, ◌≢◌, ◌<◌, ◌≤◌, ◌+◌, ◌-◌, ◌↔◌, ℕ, zero, suc, Option, Some, None, option_map, List, [], ◌∷◌, length, take, drop, Bool, true, false, refl, sym, ap, ◌∙◌, subst, inl, inr, arith}
use Rattle.std.specs.Prelude.{IsNone, ◌⊎◌, Result, Ok, Err, MatchResult, is_ok}
use Rattle.std.specs.Option.{IfSome}
use Rattle.std.specs.Str.{is_utf8}
use Rattle.std.specs.Int.{Width, w32, byte_len}
use Rattle.std.proofs.lemmas.Bool.{cases_lt, lt-ltb, le-ltb, le-leb, lt-leb}
use Rattle.std.proofs.lemmas.List.{drop-drop, drop-take, length-drop, length-take-le}
use Rattle.amqp_value_core.specs.declared.types.amqp_type.AMQPType.{AMQPType}
use Rattle.amqp_value_core.specs.declared.types.amqp_type.AMQPType.TheVariants as amqp
use Rattle.amqp_value_core.specs.Ids.{kind}
use Rattle.amqp_value_core.specs.Bytes.{IsBytes}
use Rattle.amqp_value_core.proofs.Bytes.{bytes_take, bytes_drop}
use Rattle.amqp_value_core.specs.Values.{Tree, scalar, array, table, tree, Entries, no_entries}
use Rattle.amqp_value_core.specs.Maps.{insert}
use Rattle.amqp_value_core.specs.Layouts.{Layout, fixed}
use Rattle.amqp_value_core.specs.Outcomes.{Reading, found, more, unknown, malformed, length_field, counted, lack, lack_of}
use Rattle.amqp_value_core.specs.Decode.{framed, raw_outcome_by, outcome_by, values_by, is_key, pairs_onto, meaning}
use Rattle.amqp_value_core.proofs.GrammarLaws.{and_others, and_pairs, within_holds, within_is}
use Rattle.amq_protocol_types.specs.declared.parsing.within.Limits.{Limits}
use Rattle.amq_protocol_types.specs.parsing.Headers.{extent, extent_of, extent_at, raw_extent, first_of}
use Rattle.amq_protocol_types.specs.parsing.Limits.{Within}
use Rattle.amq_protocol_types.specs.parsing.Untagged.{tagged}
use Rattle.amqp_in_place.specs.declared.problems.Problem.{Problem}
use Rattle.amqp_in_place.specs.declared.problems.ProblemKind.{ProblemKind}
use Rattle.amqp_in_place.specs.declared.problems.ProblemKind.TheVariants.{UnknownTag, Cut, KeyCut, KeyNotUtf8, TooLarge}
use Rattle.amqp_in_place.specs.declared.problems.Rules.{Rules}
use Rattle.amqp_in_place.specs.declared.problems.Rules.TheVariants.{Reading as ByReading, AnyKeys as ByAnyKeys}
use Rattle.amqp_in_place.specs.Problems.{Search, here, further, in_entries, in_payload, in_value, in_pair, pair_len, inside, problem_of, problem_in_table_of, without_tag}
use Rattle.amqp_in_place.specs.ProblemResults.{FindsValue, FailsAt}
use Rattle.amqp_in_place.proofs.AnyKeys.{none_of_any_keys, no_fixed_problem}
use Rattle.amqp_in_place.proofs.Canonicals.{no_short_letter}
use Rattle.amqp_in_place.proofs.FirstProblems.{counted_there, entry_passed, entry_stops, first_there}

-- ---- why no value is read

-- the outcome that a problem of this offset and kind explains; none is at 1, between a type tag and
-- the entries
abbrev ExplainsReading : Reading → ℕ → ProblemKind → Type 0
ExplainsReading o zero Cut = (n : ℕ) × (o ≡ more n)
ExplainsReading o zero (UnknownTag c) = o ≡ unknown
ExplainsReading o zero TooLarge = ⊥
ExplainsReading o zero _ = o ≡ malformed
ExplainsReading o (suc n) _ = (0 < n) × (o ≡ malformed)

-- what holds of each outcome but a value
explained : (P : Reading → Type 0) → ((n : ℕ) → P (more n)) → P unknown → P malformed → (o : Reading) (n : ℕ) (k : ProblemKind) → ExplainsReading o n k → P o
explained P cut no_tag bad o zero Cut e = subst P (sym e.1) (cut e.0)
explained P cut no_tag bad o zero (UnknownTag c) e = subst P (sym e) no_tag
explained P cut no_tag bad o zero TooLarge e = absurd e
explained P cut no_tag bad o zero _ e = subst P (sym e) bad
explained P cut no_tag bad o (suc n) k e = subst P (sym e.1) bad

-- a problem in an entry
explains_inside : (n : ℕ) (k : ProblemKind) → 1 < n → ExplainsReading malformed n k
explains_inside zero k some = absurd (omega arith)
explains_inside (suc n) k some = (omega arith, refl)

-- the first problem in s explains the outcome, or there is none and the value of `len` bytes is
-- found
abbrev ProblemExplains : ℕ → List ℕ → Reading → Option Problem → Type 0
ProblemExplains len s o None = (v : Tree) × (o ≡ found v (drop len s)) × (0 < len) × (len ≤ length s)
ProblemExplains len s o (Some p) = ExplainsReading o p.offset p.kind

abbrev SearchExplains : Search → (List ℕ → Reading) → Type 0
SearchExplains first read = (s : List ℕ) → IsBytes s → ProblemExplains (extent s) s (read s) (first s)

-- ---- entries

-- there is a problem, or there are entries
abbrev OneOf : {A : Type 0} → Option Problem → Option A → Type 0
OneOf None (Some x) = Unit {0}
OneOf (Some p) None = Unit {0}
OneOf _ _ = ⊥

one_further : {A B : Type 0} (n : ℕ) (f : A → B) (x : Option Problem) (y : Option A) → OneOf x y → OneOf (option_map (further n) x) (option_map f y)
one_further n f None (Some v) h = tt
one_further n f (Some p) None h = tt
one_further n f None None h = absurd h
one_further n f (Some p) (Some v) h = absurd h

one_after : {A : Type 0} (n : ℕ) (x : Option Problem) (y : Option A) → OneOf x y → OneOf (option_map (further n) x) y
one_after n None (Some v) h = tt
one_after n (Some p) None h = tt
one_after n None None h = absurd h
one_after n (Some p) (Some v) h = absurd h

-- the first of some values, and the others
next_tells : (first : Search) (read : List ℕ → Reading) (n : ℕ) (s : List ℕ) → 0 < length s
    → (0 < extent s → OneOf (in_entries first extent 0 (drop (extent s) s)) (values_by read n (drop (extent s) s)))
    → (x : Option Problem) → first s ≡ x → ProblemExplains (extent s) s (read s) x → OneOf (in_entries first extent 0 s) (and_others read n (read s))
next_tells first read n s some others None none (v, e, pos, most) =
    rw (entry_passed first extent s (extent s) none refl pos most, e)
    (one_further (extent s) (tree v) (in_entries first extent 0 (drop (extent s) s)) (values_by read n (drop (extent s) s)) (others pos))
next_tells first read n s some others (Some p) stops why =
    rw (entry_stops first extent s p some stops)
    (explained (λ o. OneOf (Some p) (and_others read n o)) (λ m. tt) tt tt (read s) p.offset p.kind why)

-- values one after another
values_tell : (first : Search) (read : List ℕ → Reading) → SearchExplains first read → (n : ℕ) (s : List ℕ) → IsBytes s → length s ≤ n
    → OneOf (in_entries first extent 0 s) (values_by read n s)
values_tell first read tells n [] bytes enough = tt
values_tell first read tells zero (c ∷ b) bytes enough = absurd (omega arith)
values_tell first read tells (suc n) (c ∷ b) bytes enough =
    let s = c ∷ b in
    next_tells first read n s (omega arith)
    (λ pos. values_tell first read tells n (drop (extent s) s) (bytes_drop (extent s) s bytes) (omega (arith, pos, length-drop (extent s) s)))
    (first s) refl (tells s bytes)

-- the first problem in pairs one after another
abbrev in_pairs : Search → Search
in_pairs value s = in_entries (in_pair ByReading value) pair_len 0 s

-- the value after a key, and the other pairs
named_tells : (value : Search) (read : List ℕ → Reading) (n : ℕ) (es : Entries) (k : ℕ) (t : List ℕ)
    → k ≤ length t → in_pair ByReading value (k ∷ t) ≡ option_map (further (1 + k)) (value (drop k t))
    → ((v : Tree) → OneOf (in_pairs value (drop (extent (drop k t)) (drop k t))) (pairs_onto read n (insert (take k t) v es) (drop (extent (drop k t)) (drop k t))))
    → (x : Option Problem) → value (drop k t) ≡ x → ProblemExplains (extent (drop k t)) (drop k t) (read (drop k t)) x
    → OneOf (in_pairs value (k ∷ t)) (and_pairs read n es (take k t) (read (drop k t)))
named_tells value read n es k t there is others None none (v, e, pos, most) =
    let first = in_pair ByReading value in
    let u = drop k t in
    let rest = drop (extent u) u in
    let len = 1 + k + extent u in
    let same : len ≡ suc (k + extent u) = omega arith in
    let before : drop len (k ∷ t) ≡ rest = ap (λ (m : ℕ). drop m (k ∷ t)) same ∙ sym (drop-drop (extent u) k t) in
    rw (entry_passed first pair_len (k ∷ t) len (is ∙ ap (option_map (further (1 + k))) none) refl (omega arith) (omega (arith, length-drop k t, there, most)), before, e)
    (one_after len (in_pairs value rest) (pairs_onto read n (insert (take k t) v es) rest) (others v))
named_tells value read n es k t there is others (Some p) stops why =
    let q = further (1 + k) p in
    rw (entry_stops (in_pair ByReading value) pair_len (k ∷ t) q (omega arith) (is ∙ ap (option_map (further (1 + k))) stops))
    (explained (λ o. OneOf (Some q) (and_pairs read n es (take k t) o)) (λ m. tt) tt tt (read (drop k t)) p.offset p.kind why)

-- the first of some pairs, and the others
pair_tells : (value : Search) (read : List ℕ → Reading) → SearchExplains value read → (n : ℕ) (es : Entries) (k : ℕ) (t : List ℕ) → IsBytes (k ∷ t)
    → ((fs : Entries) (m : ℕ) → OneOf (in_pairs value (drop m (drop k t))) (pairs_onto read n fs (drop m (drop k t))))
    → OneOf (in_pairs value (k ∷ t)) (pairs_onto read (suc n) es (k ∷ t))
pair_tells value read tells n es k t bytes others = elim (cases_lt (length t) k) [
  | inl cut ↦
      let is : in_pair ByReading value (k ∷ t) ≡ Some (here KeyCut) = rw (lt-ltb (length t) k cut) refl in
      let none : is_key k t ≡ false = rw (lt-leb k (length t) cut) refl in
      rw (entry_stops (in_pair ByReading value) pair_len (k ∷ t) (here KeyCut) (omega arith) is, none) tt
  | inr there ↦ at_key there (is_utf8 (take k t)) refl
]
  where
    at_key : k ≤ length t → (yes : Bool) → is_utf8 (take k t) ≡ yes → OneOf (in_pairs value (k ∷ t)) (pairs_onto read (suc n) es (k ∷ t))
    at_key there true utf8 =
        let is : in_pair ByReading value (k ∷ t) ≡ option_map (further (1 + k)) (value (drop k t)) = rw (le-ltb (length t) k there, utf8) refl in
        let key : is_key k t ≡ true =
        rw (le-leb k (length t) there, le-leb (length (take k t)) 255 (omega (arith, bytes.0, length-take-le k t there)), utf8) refl in
        rw key
        (named_tells value read n es k t there is (λ v. others (insert (take k t) v es) (extent (drop k t))) (value (drop k t)) refl (tells (drop k t) (bytes_drop k t bytes.1)))
    at_key there false utf8 =
        let is : in_pair ByReading value (k ∷ t) ≡ Some (here KeyNotUtf8) = rw (le-ltb (length t) k there, utf8) refl in
        let none : is_key k t ≡ false =
        rw (le-leb k (length t) there, le-leb (length (take k t)) 255 (omega (arith, bytes.0, length-take-le k t there)), utf8) refl in
        rw (entry_stops (in_pair ByReading value) pair_len (k ∷ t) (here KeyNotUtf8) (omega arith) is, none) tt

-- pairs one after another
pairs_tell : (value : Search) (read : List ℕ → Reading) → SearchExplains value read → (n : ℕ) (es : Entries) (s : List ℕ) → IsBytes s → length s ≤ n
    → OneOf (in_pairs value s) (pairs_onto read n es s)
pairs_tell value read tells n es [] bytes enough = tt
pairs_tell value read tells zero es (k ∷ t) bytes enough = absurd (omega arith)
pairs_tell value read tells (suc n) es (k ∷ t) bytes enough =
    pair_tells value read tells n es k t bytes
    (λ fs m. pairs_tell value read tells n fs (drop m (drop k t)) (bytes_drop m (drop k t) (bytes_drop k t bytes.1)) (omega (arith, length-drop m (drop k t), length-drop k t)))

-- ---- payloads

-- a problem in the bytes of a complete length-prefixed field explains that they are malformed, or
-- there is none and they mean a value
abbrev IsProblemOrValue : Option Problem → Option Tree → Type 0
IsProblemOrValue None (Some v) = Unit {0}
IsProblemOrValue (Some p) None = ExplainsReading malformed p.offset p.kind
IsProblemOrValue _ _ = ⊥

body_means : {A : Type 0} (f : A → Tree) (x : Option Problem) (y : Option A) → OneOf x y → IsProblemOrValue (option_map (further 5) x) (option_map f y)
body_means f None (Some v) h = tt
body_means f (Some p) None h = explains_inside (5 + p.offset) p.kind (omega arith)
body_means f None None h = absurd h
body_means f (Some p) (Some v) h = absurd h

-- what is in a length-prefixed field, if that is known of the values in it
field_means : (d : ℕ) → SearchExplains (in_value ByReading (inside ByReading d)) (outcome_by (meaning d))
    → (type : AMQPType) (b : List ℕ) → IsBytes b → fixed type ≡ None → type ≢ amqp.ShortString → IsProblemOrValue (inside ByReading (suc d) type b) (meaning (suc d) type (drop 4 b))
field_means d tells amqp.ShortString b bytes row long = absurd (long refl)
field_means d tells amqp.LongString b bytes row long = tt
field_means d tells amqp.ByteArray b bytes row long = tt
field_means d tells amqp.FieldArray b bytes row long =
    let body = drop 4 b in
    let value = in_value ByReading (inside ByReading d) in
    let read = outcome_by (meaning d) in
    body_means array (in_entries value extent 0 body) (values_by read (length body) body) (values_tell value read tells (length body) body (bytes_drop 4 b bytes) (omega arith))
field_means d tells amqp.FieldTable b bytes row long =
    let body = drop 4 b in
    let value = in_value ByReading (inside ByReading d) in
    let read = outcome_by (meaning d) in
    body_means table (in_entries (in_pair ByReading value) pair_len 0 body) (pairs_onto read (length body) no_entries body)
    (pairs_tell value read tells (length body) no_entries body (bytes_drop 4 b bytes) (omega arith))
field_means d tells _ b bytes row long = absurd cc

-- likewise if no container is allowed
no_field_means : (type : AMQPType) (b : List ℕ) → fixed type ≡ None → type ≢ amqp.ShortString → IsProblemOrValue (inside ByReading 0 type b) (meaning 0 type (drop 4 b))
no_field_means amqp.ShortString b row long = absurd (long refl)
no_field_means amqp.LongString b row long = tt
no_field_means amqp.ByteArray b row long = tt
no_field_means amqp.FieldArray b row long = refl
no_field_means amqp.FieldTable b row long = refl
no_field_means _ b row long = absurd cc

-- what is in length-prefixed fields in which containers nest at most d deep
abbrev FieldsMean : ℕ → Type 0
FieldsMean d = (type : AMQPType) (b : List ℕ) → IsBytes b → fixed type ≡ None → type ≢ amqp.ShortString → IsProblemOrValue (inside ByReading d type b) (meaning d type (drop 4 b))

-- a complete length-prefixed field after a type tag
framed_tells : (mean : List ℕ → Option Tree) (c len : ℕ) (b : List ℕ) (x : Option Problem) → len ≡ 4 + counted w32 b → len ≤ length b
    → IsProblemOrValue x (mean (take (counted w32 b) (drop 4 b))) → ProblemExplains (suc len) (c ∷ b) (framed w32 mean b) x
framed_tells mean c len b x is there h = by x (mean (take (counted w32 b) (drop 4 b))) h
  where
    by : (x : Option Problem) (y : Option Tree) → IsProblemOrValue x y
        → ProblemExplains (suc len) (c ∷ b) (elim y [ Some v ↦ found v (drop (counted w32 b) (drop 4 b)) | None ↦ malformed ]) x
    by None (Some v) h =
        let same : 4 + counted w32 b ≡ len = sym is in
        (v, ap (found v) (drop-drop (counted w32 b) 4 b ∙ ap (λ (n : ℕ). drop n b) same), omega arith, omega arith)
    by (Some p) None h = h
    by None None h = absurd h
    by (Some p) (Some v) h = absurd h

-- a type with a length field has it in four bytes, except a short string
four_bytes : (type : AMQPType) → fixed type ≡ None → type ≢ amqp.ShortString → length_field type ≡ w32
four_bytes amqp.ShortString row long = absurd (long refl)
four_bytes _ row long = refl

-- bytes are missing if the payload has more than there are, and none otherwise
lack_cut : (o : Option Layout) (w : Width) (b : List ℕ) → length b < extent_of o w b → 0 < lack_of o w b
lack_cut (Some f) w b less = elim (cases_lt (length b) f.first) [
  | inl cut ↦ rw (lt-ltb (length b) f.first cut) (omega arith)
  | inr known ↦ rw (le-ltb (length b) f.first known) (omega arith)
]
lack_cut None w b less = elim (cases_lt (length b) (byte_len w)) [
  | inl cut ↦ rw (lt-ltb (length b) (byte_len w) cut) (omega arith)
  | inr known ↦
      let test = le-ltb (length b) (byte_len w) known in
      let all : length b < byte_len w + counted w b = rw test at less in
      rw test (omega arith)
]

lack_none : (o : Option Layout) (w : Width) (b : List ℕ) → first_of o w ≤ extent_of o w b → extent_of o w b ≤ length b → lack_of o w b ≡ 0
lack_none (Some f) w b first there = rw (le-ltb (length b) f.first (omega arith)) (omega arith)
lack_none None w b first there =
    let test = le-ltb (length b) (byte_len w) (omega arith) in
    let all : byte_len w + counted w b ≤ length b = rw test at there in
    rw test (omega arith)

-- the cases of reading a payload, under names
abbrev by_layout : ℕ → AMQPType → List ℕ → Option Layout → Reading
by_layout d type b o = elim o [
  | Some f ↦ found (scalar (f.denotes (take f.width b))) (drop f.width b)
  | None ↦ framed (length_field type) (meaning d type) b
]

abbrev by_lack : ℕ → AMQPType → List ℕ → ℕ → Reading
by_lack d type b n = elim n [ suc n ↦ more (suc n) | zero ↦ by_layout d type b (fixed type) ]

-- if bytes are missing, more are needed
more_needed : (d : ℕ) (type : AMQPType) (b : List ℕ) (n : ℕ) → 0 < n → (m : ℕ) × (by_lack d type b n ≡ more m)
more_needed d type b zero some = absurd (omega arith)
more_needed d type b (suc n) some = (suc n, refl)

-- a payload whose bytes are all there, after a type tag
field_tells : (d : ℕ) → FieldsMean d → (c : ℕ) (type : AMQPType) (b : List ℕ) → IsBytes b → fixed type ≡ None → type ≢ amqp.ShortString → extent_of None w32 b ≤ length b
    → ProblemExplains (suc (extent_of None w32 b)) (c ∷ b) (framed w32 (meaning d type) b) (inside ByReading d type (take (extent_of None w32 b) b))
field_tells d mean c type b bytes row long there =
    let n = counted w32 b in
    let len = extent_of None w32 b in
    let test = le-ltb (length b) 4 (omega (arith, there, counted_there w32 b)) in
    let is : len ≡ 4 + n = rw test refl in
    let body : drop 4 (take len b) ≡ take n (drop 4 b) = ap (λ (m : ℕ). drop 4 (take m b)) is ∙ drop-take 4 n b in
    framed_tells (meaning d type) c len b (inside ByReading d type (take len b)) is there
    (subst (λ (t : List ℕ). IsProblemOrValue (inside ByReading d type (take len b)) (meaning d type t)) body (mean type (take len b) (bytes_take len b bytes) row long))

whole_tells : (d : ℕ) → FieldsMean d → (c : ℕ) (type : AMQPType) (b : List ℕ) → IsBytes b → type ≢ amqp.ShortString → (o : Option Layout) → fixed type ≡ o
    → extent_of o (length_field type) b ≤ length b
    → ProblemExplains (suc (extent_of o (length_field type) b)) (c ∷ b) (by_layout d type b o) (inside ByReading d type (take (extent_of o (length_field type) b) b))
whole_tells d mean c type b bytes long (Some f) row there =
    rw (no_fixed_problem ByReading d type f (take f.width b) refl row) (scalar (f.denotes (take f.width b)), refl, omega arith, omega arith)
whole_tells d mean c type b bytes long None row there =
    subst (λ (w : Width). extent_of None w b ≤ length b
    → ProblemExplains (suc (extent_of None w b)) (c ∷ b) (framed w (meaning d type) b) (inside ByReading d type (take (extent_of None w b) b))) (sym (four_bytes type row long))
    (field_tells d mean c type b bytes row long) there

-- a payload after a type tag
payload_tells : (d : ℕ) → FieldsMean d → (c : ℕ) (type : AMQPType) (b : List ℕ) → IsBytes b → type ≢ amqp.ShortString
    → ProblemExplains (suc (raw_extent type b)) (c ∷ b) (raw_outcome_by (meaning d) type b) (in_payload (inside ByReading d) type b)
payload_tells d mean c type b bytes long = elim (cases_lt (length b) (raw_extent type b)) [
  | inl cut ↦
      rw (lt-ltb (length b) (raw_extent type b) cut)
      (more_needed d type b (lack type b) (lack_cut (fixed type) (length_field type) b cut))
  | inr there ↦
      let len = raw_extent type b in
      let none = lack_none (fixed type) (length_field type) b (first_there type b) there in
      rw (le-ltb (length b) len there)
      (subst (λ (n : ℕ). ProblemExplains (suc len) (c ∷ b) (by_lack d type b n) (inside ByReading d type (take len b))) (sym none)
      (whole_tells d mean c type b bytes long (fixed type) refl there))
]

-- ---- values

value_tells : (d : ℕ) → FieldsMean d → SearchExplains (in_value ByReading (inside ByReading d)) (outcome_by (meaning d))
value_tells d mean [] bytes = (1, refl)
value_tells d mean (c ∷ b) bytes = by (kind c) refl
  where
    by : (k : Option AMQPType) → kind c ≡ k
        → ProblemExplains (extent_at k b) (c ∷ b) (elim k [ None ↦ unknown | Some type ↦ raw_outcome_by (meaning d) type b ])
        (elim k [ None ↦ Some (here (UnknownTag c)) | Some type ↦ in_payload (inside ByReading d) type b ])
    by None is = refl
    by (Some type) is = payload_tells d mean c type b bytes.1 (λ e. no_short_letter c (is ∙ ap Some e))

fields_mean : (d : ℕ) → FieldsMean d
fields_mean zero type b bytes row long = no_field_means type b row long
fields_mean (suc d) type b bytes row long = field_means d (value_tells d (fields_mean d)) type b bytes row long

-- the first problem within a depth explains the outcome, or there is none and a value is found
problem_tells : (d : ℕ) → SearchExplains (in_value ByReading (inside ByReading d)) (outcome_by (meaning d))
problem_tells d = value_tells d (fields_mean d)

-- ---- within limits

-- s is bytes, and fits the limit `frame`
module _ (l : Limits) (s : List ℕ) (bytes : IsBytes s) (fits : extent s ≤ l.frame) where
  -- the outcome
  abbrev here_read : Reading
  here_read = outcome_by (meaning l.depth) s

  is_read : Within l s here_read
  is_read = (fits, within_holds l.depth s bytes)

  -- no value is found if a problem explains the outcome
  not_found : (n : ℕ) (k : ProblemKind) → ExplainsReading here_read n k → FindsValue l s → ⊥
  not_found n k why (v, rest, x) =
      let is : found v rest ≡ here_read = (within_is l.depth s (found v rest) bytes).0 x.1 in
      explained (λ (o : Reading). found v rest ≡ o → ⊥) (λ m e. cc) (λ e. cc) (λ e. cc) here_read n k why is

  -- there is no problem exactly if a value is found
  none_if_found : (x : Option Problem) → ProblemExplains (extent s) s here_read x → IsNone x ↔ FindsValue l s
  none_if_found None (v, e, some, most) = (λ none. (v, drop (extent s) s, subst (Within l s) e is_read), λ found. refl)
  none_if_found (Some p) why = (λ none. cc, λ found. absurd (not_found p.offset p.kind why found))

  -- what a problem explains is what reading results in
  fails_at : (n : ℕ) (k : ProblemKind) → ExplainsReading here_read n k → FailsAt l s n k
  fails_at zero Cut e = (e.0, subst (Within l s) e.1 is_read)
  fails_at zero (UnknownTag c) e = subst (Within l s) e is_read
  fails_at zero TooLarge e = absurd e
  fails_at zero _ e = subst (Within l s) e is_read
  fails_at (suc n) k e = subst (Within l s) e.1 is_read

  -- so it is with an offset that doesn't count the type tag
  fails_after : (n : ℕ) (k : ProblemKind) → ExplainsReading here_read n k → FailsAt l s (n - 1) k
  fails_after zero k e = fails_at zero k e
  fails_after (suc zero) k e = absurd (omega (arith, e.0))
  fails_after (suc (suc n)) k e =
      let before : suc n ≡ suc (suc n) - 1 = omega arith in
      subst (λ (m : ℕ). FailsAt l s m k) before (subst (Within l s) e.1 is_read)

  fails : (x : Option Problem) → ProblemExplains (extent s) s here_read x → IfSome x (λ p. FailsAt l s p.offset p.kind)
  fails None tells = tt
  fails (Some p) why = fails_at p.offset p.kind why

  fails_untagged : (x : Option Problem) → ProblemExplains (extent s) s here_read x → IfSome (option_map without_tag x) (λ p. FailsAt l s p.offset p.kind)
  fails_untagged None tells = tt
  fails_untagged (Some p) why = fails_after p.offset p.kind why

-- what holds of the first problem by the rules of reading, if it does of a value that is too large,
-- and of a problem that explains the outcome
by_limits : (P : Option Problem → Type 0) (l : Limits) (s : List ℕ) → IsBytes s → (l.frame < extent s → P (Some (here TooLarge)))
    → (extent s ≤ l.frame → (x : Option Problem) → ProblemExplains (extent s) s (outcome_by (meaning l.depth) s) x → P x) → P (problem_of ByReading l s)
by_limits P l s bytes large small = elim (cases_lt l.frame (extent s)) [
  | inl exceeds ↦ rw (lt-ltb l.frame (extent s) exceeds) (large exceeds)
  | inr fits ↦
      rw (le-ltb l.frame (extent s) fits)
      (small fits (in_value ByReading (inside ByReading l.depth) s) (problem_tells l.depth s bytes))
]

-- what holds of the first problem by the rules of reading holds of x, if that is it
of_first : (P : Option Problem → Type 0) (problem : Rules → Option Problem) (rules : Rules) → rules ≡ ByReading → (x : Option Problem) → P (problem ByReading) → x ≡ problem rules → P x
of_first P problem rules is x holds first = subst P (sym (first ∙ ap problem is)) holds

module _ (rules : Rules) (l : Limits) (s : List ℕ) (bytes : IsBytes s) (is : rules ≡ ByReading) (x : Option Problem) where
  -- there is none exactly if a value is read
  pub reads_if_none : x ≡ problem_of rules l s → IsNone x ↔ FindsValue l s
  reads_if_none =
      let P : Option Problem → Type 0 = λ y. IsNone y ↔ FindsValue l s in
      of_first P (λ r. problem_of r l s) rules is x (by_limits P l s bytes (λ large. (λ none. cc, λ (v, rest, y). absurd (omega (arith, large, y.0)))) (none_if_found l s bytes))

  -- and what reading results in if there is one
  pub fails_if_some : x ≡ problem_of rules l s → IfSome x (λ p. FailsAt l s p.offset p.kind)
  fails_if_some =
      let P : Option Problem → Type 0 = λ y. IfSome y (λ p. FailsAt l s p.offset p.kind) in
      of_first P (λ r. problem_of r l s) rules is x (by_limits P l s bytes (λ large. large) (fails l s bytes))

-- so it is of a table t without its type tag
module _ (rules : Rules) (l : Limits) (t : List ℕ) (bytes : IsBytes t) (is : rules ≡ ByReading) (x : Option Problem) where
  -- with its type tag
  abbrev with_tag : List ℕ
  with_tag = tagged amqp.FieldTable t

  with_tag_bytes : IsBytes with_tag
  with_tag_bytes = (omega arith, bytes)

  pub table_read_if_none : x ≡ problem_in_table_of rules l t → IsNone x ↔ FindsValue l with_tag
  table_read_if_none =
      let P : Option Problem → Type 0 = λ y. IsNone y ↔ FindsValue l with_tag in
      let by : (y : Option Problem) → P y → P (option_map without_tag y) = λ y. elim y as (λ z. P z → P (option_map without_tag z)) [ None ↦ λ same. same | Some p ↦ λ same. same ] in
      of_first P (λ r. problem_in_table_of r l t) rules is x (by (problem_of ByReading l with_tag) (reads_if_none ByReading l with_tag with_tag_bytes refl (problem_of ByReading l with_tag) refl))

  pub table_fails_if_some : x ≡ problem_in_table_of rules l t → IfSome x (λ p. FailsAt l with_tag p.offset p.kind)
  table_fails_if_some =
      let P : Option Problem → Type 0 = λ y. IfSome y (λ p. FailsAt l with_tag p.offset p.kind) in
      of_first P (λ r. problem_in_table_of r l t) rules is x (by_limits (λ y. P (option_map without_tag y)) l with_tag with_tag_bytes (λ large. large) (fails_untagged l with_tag with_tag_bytes))

-- what is read has no problem, nor if keys may be any bytes
none_if_read : (l : Limits) (s : List ℕ) → IsBytes s → FindsValue l s → problem_of ByReading l s ≡ None
none_if_read l s bytes value = by (problem_of ByReading l s) ((reads_if_none ByReading l s bytes refl (problem_of ByReading l s) refl).1 value)
  where
    by : (x : Option Problem) → IsNone x → x ≡ None
    by None none = refl
    by (Some p) none = absurd cc

none_by_rules : (rules : Rules) (l : Limits) (s : List ℕ) → IsBytes s → (rules ≡ ByReading) ⊎ (rules ≡ ByAnyKeys) → FindsValue l s → problem_of rules l s ≡ None
none_by_rules rules l s bytes is value =
    let none = none_if_read l s bytes value in
    elim is [ inl same ↦ rw same none | inr same ↦ rw same (none_of_any_keys l s none) ]

pub none_if_ok : {A E T : Type 0} (P : E → Type 0) (rest : A → List ℕ) (meant : A → T → Type 0) (tree_of : T → Tree) (rules : Rules) (l : Limits) (s : List ℕ) → IsBytes s → (rules ≡ ByReading) ⊎ (rules ≡ ByAnyKeys) → (r : Result A E)
    → MatchResult r (λ x. (t : T) × meant x t × Within l s (found (tree_of t) (rest x))) P → is_ok r ≡ true → problem_of rules l s ≡ None
none_if_ok P rest meant tree_of rules l s bytes is (Err e) right ok = absurd cc
none_if_ok P rest meant tree_of rules l s bytes is (Ok x) right ok = none_by_rules rules l s bytes is (tree_of right.0, rest x, right.2)
