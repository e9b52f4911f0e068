-- `canonical_by_bytes`: the table's text is canonical. The others aren't, since a canonical
-- encoding has no alternate tag, no 7 for true, and no short string.
use Rattle.std.proofs.Common.{◌≡◌, ℕ, List, [], ◌∷◌, rules, refl, subst, arith}
use Rattle.std.specs.Str.{is_utf8, chars}
use lib.Utf8.{encode}
use Rattle.amqp_value_core.specs.declared.types.amqp_type.AMQPType.{AMQPType}
use Rattle.amqp_value_core.specs.declared.types.amqp_type.AMQPType.TheVariants as amqp
use Rattle.amqp_value_core.specs.Canonical.{IsStrict, canon, CanonRaw, canon_fixed, canon_long, canon_octets, canon_array, canon_table}
use Rattle.amqp_value_core.specs.Values.{Tree}
use Rattle.amqp_value_core.proofs.GrammarLaws.{text_is_canon, canon_fits}
use Rattle.test_codec.proofs.worked.encodings.canonical_by_bytes.Goals as goal

pub returns-clause-table : goal.returns-clause-table
unfolding is_utf8 chars encode
returns-clause-table c = text_is_canon _ (search rules) (search rules) refl

pub returns-clause-alternate : goal.returns-clause-alternate
returns-clause-alternate c (canon _ _ _ _ k not_U not_L raw) = not_U refl

not_seven : (type : AMQPType) (b : List ℕ) (v : Tree) → CanonRaw type b v → type ≡ amqp.Boolean → b ≡ 7 ∷ [] → ⊥
not_seven _ _ _ (canon_fixed type f b row len strict) e seven =
    omega (arith, subst (λ (b : List ℕ). IsStrict amqp.Boolean b) seven (subst (λ (t : AMQPType). IsStrict t b) e strict))
not_seven _ _ _ (canon_long s fits) e seven = absurd cc
not_seven _ _ _ (canon_octets s fits) e seven = absurd cc
not_seven _ _ _ (canon_array body vs fits all) e seven = absurd cc
not_seven _ _ _ (canon_table body es fits all) e seven = absurd cc

pub returns-clause-seven : goal.returns-clause-seven
returns-clause-seven c (canon _ type b v k not_U not_L raw) = not_seven type b v raw (cc k) refl

pub returns-clause-short_string : goal.returns-clause-short_string
returns-clause-short_string c x = cc (canon_fits _ _ x).1
