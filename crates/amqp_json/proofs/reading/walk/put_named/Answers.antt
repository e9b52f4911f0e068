-- `put_named`: if the object ends after the token, it means what `put_leaf` puts. It means nothing
-- if the name is unknown, the token isn't of the type, or another key follows.
use Rattle.std.proofs.Common.{rules, ℕ, List, ◌≡◌, ◌∷◌, [], Some, None, refl, sym, ap, ◌∙◌}
use Rattle.json.specs.Token.{Token, key}
use Rattle.json.specs.Json.{value, read_key}
use Rattle.json.specs.Reads.{token_of}
use Rattle.json.proofs.Grammar.{value_is, read_key_is}
use Rattle.amqp_json.specs.declared.error.JsonError.TheVariants.{Syntax}
use Rattle.amqp_json.specs.declared.error.SyntaxError.TheVariants.{UnexpectedEnd}
use Rattle.amqp_json.specs.Meaning.{type_named}
use Rattle.amqp_json.specs.reading.Puts.{IsNamed, IsLeaf, IsRead, IsRefusal, members_at, object_meant, converted}
use Rattle.amqp_json.proofs.PutEncodings.{puts_weaker}
use Rattle.amqp_json.proofs.Levels.{StartsAs, first_is, no_key}
use Rattle.amqp_json.proofs.Refusals.{refusal_of, wrong_after, wrong_first, wrong_after_leaf, leaf_refused}
use Rattle.amqp_json.proofs.ObjectKeys.{no_named, no_value, sole, not_closed, not_alone}
use Rattle.amqp_json.proofs.reading.walk.put_named.Goals as goal

pub returns-in_default-clause-refused : goal.returns-in_default-clause-refused
returns-in_default-clause-refused c k depth is name =
    let none : type_named c.args.name.now ≡ None = search rules in
    let no_type : (d : ℕ) (us : List Token) → converted object_meant (members_at d (key k ∷ us)) ≡ None = λ d us. no_named d k is us None (ap type_named (sym name) ∙ none) (λ j r at. refl) in
    (λ d le. no_type d c.args.reader.now, wrong_first depth object_meant members_at _ (key k) c.args.reader.now refl (λ d us le. no_type d us))

pub returns-in_default-next-clause-refused : goal.returns-in_default-next-clause-refused
returns-in_default-next-clause-refused c k depth is name =
    let end : c.args.reader.now ≡ [] = search rules in (
      λ d le. no_value d k is c.args.reader.now (ap (value d) end ∙ value_is d []),
      wrong_after depth object_meant members_at (key k ∷ c.args.reader.now) depth (key k ∷ []) c.args.reader.now refl (λ us. refl) (λ d us le (t, s, us', first, more). absurd (cc (end, first))),
    )

pub returns-in_err-put_leaf-clause-refused : goal.returns-in_err-put_leaf-clause-refused
returns-in_err-put_leaf-clause-refused c =
    let type : type_named c.args.name.now ≡ Some c.in-Some.amqp_type = search rules in
    let t = token_of c.in-Some-next.token in
    let first : c.args.reader.now ≡ t ∷ c.next.new.self = search rules in
    let refused : IsNamed c.args.name.now c.args.reader.now (λ depth ts. IsRefusal depth c.in_err-put_leaf.field-0.0 object_meant members_at ts) =
    rw first (leaf_refused c.in-Some.amqp_type c.args.name.now type t c.next.new.self c.in_err-put_leaf.field-0.0 c.in_err-put_leaf.ensures.refused) in
    search (rules, refused)

pub returns-in-Err-clause-refused : goal.returns-in-Err-clause-refused
returns-in-Err-clause-refused c k depth is name =
    let t = token_of c.in-Some-next.token in
    let first : c.args.reader.now ≡ t ∷ c.next.new.self = search rules in
    let (w, v, put, is_wire, leaf) = c.in_ok-put_leaf.ensures.ok in
    let none : read_key c.next.new.self ≡ None = search rules in
    refusal_of depth object_meant members_at (key k ∷ c.args.reader.now) (Syntax 0 UnexpectedEnd) tt
    (λ d le. ap (λ ts. members_at d (key k ∷ ts)) first ∙ not_closed d k is t c.next.new.self c.in-Some.amqp_type v leaf none)
    (wrong_after_leaf depth k t c.args.reader.now c.next.new.self c.in-Some.amqp_type v leaf first
    (λ d us start. ap (converted object_meant) (not_closed d k is t us c.in-Some.amqp_type v leaf (no_key c.next.new.self us start none))))

pub returns-in-Ok-None-clause-ok : goal.returns-in-Ok-None-clause-ok
returns-in-Ok-None-clause-ok c =
    let type : type_named c.args.name.now ≡ Some c.in-Some.amqp_type = search rules in
    let t = token_of c.in-Some-next.token in
    let r = c.next_key.new.self in
    let first : c.args.reader.now ≡ t ∷ c.next.new.self = search rules in
    let closed : read_key c.next.new.self ≡ Some (None, r) = search rules in
    puts_weaker (IsLeaf c.in-Some.amqp_type t) (λ v. IsNamed c.args.name.now c.args.reader.now (λ depth ts. IsRead depth object_meant (λ d. members_at d ts) v r)) _ _
    (λ v leaf k depth is name d le. ap (λ ts. converted object_meant (members_at d (key k ∷ ts))) first ∙ sole d k is t c.next.new.self r c.in-Some.amqp_type v (ap type_named (sym name) ∙ type) leaf closed) c.in_ok-put_leaf.ensures.ok

pub returns-in-Ok-Some-clause-refused : goal.returns-in-Ok-Some-clause-refused
returns-in-Ok-Some-clause-refused c k depth is name =
    let t = token_of c.in-Some-next.token in
    let first : c.args.reader.now ≡ t ∷ c.next.new.self = search rules in
    let (w, v, put, is_wire, leaf) = c.in_ok-put_leaf.ensures.ok in
    let other = c.in-Ok-Some.field-0-0.now in
    let next : read_key c.next.new.self ≡ Some (Some other, c.next_key.new.self) = search rules in
    let second : (us : List Token) → StartsAs c.next.new.self us → (us' : List Token) × (us ≡ key other ∷ us') = λ us start. first_is (key other) c.next_key.new.self c.next.new.self us (read_key_is c.next.new.self (Some other) c.next_key.new.self next) start in (
      λ d le. ap (λ ts. converted object_meant (members_at d (key k ∷ ts))) first ∙ not_alone d k is t c.next.new.self c.next_key.new.self other c.in-Some.amqp_type v leaf next,
      wrong_after_leaf depth k t c.args.reader.now c.next.new.self c.in-Some.amqp_type v leaf first
          (λ d us start. let (us', at) = second us start in not_alone d k is t us us' other c.in-Some.amqp_type v leaf (ap read_key at)),
    )
