-- `more_bytes`: what an outcome becomes if more bytes follow (`with_more`).
use Rattle.std.proofs.Common.{◌≡◌, ◌<◌, ◌-◌, ℕ, zero, suc, List, ◌∷◌, ◌++◌, length, drop, Some, refl, sym, ap, ◌∙◌, subst, arith, append_assoc}
use Rattle.std.proofs.lemmas.List.{nil_from_length}
use Rattle.amqp_value_core.specs.declared.types.amqp_type.AMQPType.{AMQPType}
use Rattle.amqp_value_core.specs.Values.{Tree}
use Rattle.amqp_value_core.specs.Ids.{kind}
use Rattle.amqp_value_core.specs.Grammar.{Wire, Raw}
use Rattle.amqp_value_core.specs.Outcomes.{Reading, found, more, unknown, malformed, lack, RawOutcomeBy, OutcomeBy, no_byte, no_tag, needs_more, at_start, not_at_start, Outcome, RawOutcome, with_more, StillWaits}
use Rattle.amqp_value_core.proofs.Bytes.{prefix_inside}
use Rattle.amqp_value_core.proofs.Headers.{payload_extent, payload_extent-whole, payload_extent-append, payload_extent-raw, lack-whole, lack-append}
use Rattle.amqp_value_core.proofs.Outcomes.{NeedsMoreOr, PrefixBy, raw_from_cases, raw_to_cases, raw_whole_by, value_to_raw, raw_to_value}

-- a payload at the start of a joined list is in its first part, if that is a complete
-- length-prefixed field
raw_inside : (type : AMQPType) (s t b rest : List ℕ) (v : Tree) → lack type s ≡ 0 → Raw type b v → s ++ t ≡ b ++ rest → s ≡ b ++ drop (length b) s
raw_inside type s t b rest v whole p e =
    let same : payload_extent type s ≡ length b = sym (payload_extent-append type s t whole) ∙ (ap (payload_extent type) e ∙ payload_extent-raw type b rest v p) in
    prefix_inside s t b rest e (omega (arith, same, payload_extent-whole type s whole))

-- if n bytes are missing, that is the outcome
pub NeedsMoreOr-more : (n : ℕ) (P : Type 0) → 0 < n → NeedsMoreOr n P (more n)
NeedsMoreOr-more zero P lt = absurd (omega arith)
NeedsMoreOr-more (suc n) P lt = refl

-- P holds of payloads of the type
module _ (P : List ℕ → Tree → Type 0) (type : AMQPType) (raw : (b : List ℕ) (v : Tree) → P b v → Raw type b v) (s t : List ℕ) where
  -- what decides a complete length-prefixed field decides it with more bytes
  prefix_append : (o : Reading) → lack type s ≡ 0 → PrefixBy P s o → PrefixBy P (s ++ t) (with_more o t)
  prefix_append (found v rest) whole f = (f.0, f.1, ap (λ (x : List ℕ). x ++ t) f.2 ∙ append_assoc f.0 rest t)
  prefix_append malformed whole f = λ b rest v p e.
      f b (drop (length b) s) v p (raw_inside type s t b rest v whole (raw b v p) e)
  prefix_append (more n) whole f = absurd f
  prefix_append unknown whole f = absurd f

  -- the outcome of reading a payload, with more bytes
  pub more_raw_bytes_by : (o : Reading) → RawOutcomeBy P type s o → StillWaits o t → RawOutcomeBy P type (s ++ t) (with_more o t)
  more_raw_bytes_by o x waits = by (lack type s) refl (raw_to_cases P type raw s o x)
    where
      by : (n : ℕ) → lack type s ≡ n → NeedsMoreOr n (PrefixBy P s o) o → RawOutcomeBy P type (s ++ t) (with_more o t)
      by zero whole f = raw_whole_by P type (s ++ t) (with_more o t) (lack-whole type s t whole) (prefix_append o whole f)
      by (suc n) e is =
          let less : length t < suc n = subst (λ (r : Reading). StillWaits r t) is waits in
          let left : lack type (s ++ t) ≡ suc n - length t = lack-append type s t (rw e less) ∙ ap (λ (m : ℕ). m - length t) e in
          subst (λ (r : Reading). RawOutcomeBy P type (s ++ t) (with_more r t)) (sym is)
          (subst (λ (m : ℕ). RawOutcomeBy P type (s ++ t) (more m)) left
          (raw_from_cases P type (s ++ t) (more (lack type (s ++ t))) (NeedsMoreOr-more (lack type (s ++ t)) _ (omega (arith, left)))))

-- the outcome of reading a value, with more bytes, if after each type tag it is that
pub more_bytes_by : (P : List ℕ → Tree → Type 0) (s t : List ℕ) (o : Reading)
    → ((c : ℕ) (type : AMQPType) (b : List ℕ) → kind c ≡ Some type → OutcomeBy P (c ∷ b) o → OutcomeBy P (c ∷ (b ++ t)) (with_more o t))
    → OutcomeBy P s o → StillWaits o t → OutcomeBy P (s ++ t) (with_more o t)
more_bytes_by P _ t _ typed no_byte waits = subst (λ (x : List ℕ). OutcomeBy P x (more (1 - length x))) (sym (nil_from_length t (omega (arith, waits)))) no_byte
more_bytes_by P _ t _ typed (no_tag c b k) waits = no_tag c (b ++ t) k
more_bytes_by P _ t _ typed (needs_more c type b n k e) waits = typed c type b k (needs_more c type b n k e)
more_bytes_by P _ t _ typed (at_start w rest v p) waits =
    subst (λ (x : List ℕ). OutcomeBy P x (found v (rest ++ t))) (sym (append_assoc w rest t)) (at_start w (rest ++ t) v p)
more_bytes_by P _ t _ typed (not_at_start c type b k e none) waits = typed c type b k (not_at_start c type b k e none)

-- ---- without a limit

pub more_raw_bytes : (type : AMQPType) (s t : List ℕ) (o : Reading) → RawOutcome type s o → StillWaits o t → RawOutcome type (s ++ t) (with_more o t)
more_raw_bytes type s t o x waits = more_raw_bytes_by (Raw type) type (λ b v p. p) s t o x waits

pub more_bytes : (s t : List ℕ) (o : Reading) → Outcome s o → StillWaits o t → Outcome (s ++ t) (with_more o t)
more_bytes s t o x waits =
    more_bytes_by Wire s t o
    (λ c type b k y. raw_to_value c type (b ++ t) (with_more o t) k (more_raw_bytes type b t o (value_to_raw c type b o k y) waits)) x waits
