-- `WritesPlain` value by value and pair by pair, for the loops of `src/plain.rt`, and of values that aren't containers.
use Rattle.std.proofs.Common.{◌≡◌, Bool, true, false, if◌then◌else◌, List, [], ◌∷◌, ◌++◌, ℕ, Result, OnOk, refl, sym, ap, subst, ◌∙◌, append_assoc}
use Rattle.std.proofs.lemmas.Result.{on_ok_weaker}
use Rattle.std.proofs.lemmas.Str.{IsUtf8-from_is_utf8, is_utf8-from_IsUtf8}
use Rattle.std.specs.Borrow.{Bor}
use Rattle.std.specs.Str.{IsUtf8, is_utf8}
use Rattle.hex.specs.Hex.{encode_lower}
use Rattle.json.specs.Token.{Token, begin_array, end_array, begin_object, end_object, key}
use Rattle.json.specs.Json.{Json, string, array, object, Items, no_items, item, Members, no_members, member}
use Rattle.json.specs.Tree.{json_tokens, items_tokens, members_tokens}
use Rattle.json.specs.Written.{Written, Writes}
use Rattle.amqp_value_core.specs.Values as values
use Rattle.amqp_value_core.specs.Values.{Tree, Trees, no_trees, tree, Entries, no_entries, entry}
use Rattle.amqp_in_place.specs.declared.refs.ArrayRef.{ArrayRef}
use Rattle.amqp_in_place.specs.declared.refs.TableRef.{TableRef}
use Rattle.amqp_in_place.specs.declared.refs.ValueRef.{ValueRef}
use Rattle.amqp_in_place.specs.declared.refs.ValueRef.TheVariants as at
use Rattle.amqp_in_place.specs.Heads.{IsPlainRef}
use Rattle.amqp_in_place.specs.Refs.{array_body, table_body, plain_tree}
use Rattle.amqp_in_place.specs.Written.{IsWrittenAs, WrittenValues, WrittenPairs}
use Rattle.amqp_json.proofs.AsWritten.{ValueWritten, PairWritten}
use Rattle.amqp_show.specs.Plain.{IsPlain, ArePlain, MembersArePlain, WritesJson, WritesPlain, WritesPlainOf}

-- ---- an array

-- once the other items are written, plain JSON of all items is
abbrev pub Awaits : Trees → List Token → List Token → Trees → Type 0
Awaits all from now rest = (more : Items) → ArePlain rest more → (js : Items) × ArePlain all js × (now ++ items_tokens more ≡ from ++ json_tokens (array js))

pub array_begun : (all : Trees) (from now : List Token) → now ≡ from ++ begin_array ∷ [] → Awaits all from now all
array_begun all from now e = λ more plain. (more, plain, ap (λ ts. ts ++ items_tokens more) e ∙ append_assoc from (begin_array ∷ []) (items_tokens more))

pub item_written : (all rest : Trees) (from old new : List Token) (x : ValueRef) (left : List ℕ) → ValueWritten rest x left → WritesPlainOf x old new → Awaits all from old rest
    → (others : Trees) × WrittenValues left others × Awaits all from new others
item_written all no_trees from old new x left step puts awaits = absurd step
item_written all (tree v vs) from old new x left step puts awaits =
    let (j, is, w) = puts v step.0 in (
      vs,
      step.1,
      λ more plain.
          let (js, are, e) = awaits (item j more) (is, plain) in
          (js, are, ap (λ ts. ts ++ items_tokens more) w ∙ append_assoc old (json_tokens j) (items_tokens more) ∙ e),
    )

pub array_ended : (all rest : Trees) (old now new : List Token) → rest ≡ no_trees → new ≡ now ++ end_array ∷ [] → Awaits all old now rest
    → WritesPlain old new (values.array all)
array_ended all rest old now new none e awaits =
    let (js, are, so) = subst (Awaits all old now) none awaits no_items tt in
    (array js, (js, refl, are), e ∙ so)

pub array_written : (r : ValueRef) (x : ArrayRef) (old new : List Token) → r ≡ at.FieldArray x → ((all : Trees) → WrittenValues (array_body x) all → WritesPlain old new (values.array all)) → WritesPlainOf r old new
array_written r x old new is puts = λ t has.
    let means : IsWrittenAs (at.FieldArray x) t = subst (λ (y : ValueRef). IsWrittenAs y t) is has in
    subst (WritesPlain old new) (sym means.2) (puts means.0 means.1)

-- ---- a table

abbrev pub AwaitsPairs : Entries → List Token → List Token → Entries → Type 0
AwaitsPairs all from now rest = (more : Members) → MembersArePlain rest more → (ms : Members) × MembersArePlain all ms × (now ++ members_tokens more ≡ from ++ json_tokens (object ms))

pub table_begun : (all : Entries) (from now : List Token) → now ≡ from ++ begin_object ∷ [] → AwaitsPairs all from now all
table_begun all from now e = λ more plain. (more, plain, ap (λ ts. ts ++ members_tokens more) e ∙ append_assoc from (begin_object ∷ []) (members_tokens more))

pub pair_written : (all rest : Entries) (from old keyed new : List Token) (x : Bor (List ℕ) × ValueRef) (left : List ℕ) → PairWritten rest x left → keyed ≡ old ++ key x.0.now ∷ [] → WritesPlainOf x.1 keyed new
    → AwaitsPairs all from old rest → (others : Entries) × WrittenPairs left others × AwaitsPairs all from new others
pair_written all no_entries from old keyed new x left step k puts awaits = absurd step
pair_written all (entry name v es) from old keyed new x left step k puts awaits =
    let (j, is, w) = puts v step.1 in (
      es,
      step.2,
      λ more plain.
          let (ms, are, e) = awaits (member x.0.now j more) (step.0, is, plain) in
          let all_of = json_tokens j ++ members_tokens more in (
            ms,
            are,
            ap (λ ts. ts ++ members_tokens more) (w ∙ ap (λ ts. ts ++ json_tokens j) k) ∙ append_assoc (old ++ key x.0.now ∷ []) (json_tokens j) (members_tokens more)
                ∙ append_assoc old (key x.0.now ∷ []) all_of ∙ e,
          ),
    )

pub table_ended : (all rest : Entries) (old now new : List Token) → rest ≡ no_entries → new ≡ now ++ end_object ∷ [] → AwaitsPairs all old now rest
    → WritesPlain old new (values.table all)
table_ended all rest old now new none e awaits =
    let (ms, are, so) = subst (AwaitsPairs all old now) none awaits no_members tt in
    (object ms, (ms, refl, are), e ∙ so)

pub table_written : (r : ValueRef) (x : TableRef) (old new : List Token) → r ≡ at.FieldTable x → ((all : Entries) → WrittenPairs (table_body x) all → WritesPlain old new (values.table all)) → WritesPlainOf r old new
table_written r x old new is puts = λ t has.
    let means : IsWrittenAs (at.FieldTable x) t = subst (λ (y : ValueRef). IsWrittenAs y t) is has in
    subst (WritesPlain old new) (sym means.2) (puts means.0 means.1)

-- ---- another value

is_tree : (r : ValueRef) (t : Tree) → IsPlainRef r → IsWrittenAs r t → t ≡ plain_tree r
is_tree (at.FieldArray a) t plain is = absurd plain
is_tree (at.FieldTable b) t plain is = absurd plain
is_tree _ t plain is = is

pub leaf_is : (r shape : ValueRef) (old new : List Token) (j : Json) → r ≡ shape → IsPlainRef r → IsPlain (plain_tree shape) j → WritesJson old new j → WritesPlainOf r old new
leaf_is r shape old new j is ref plain w = λ t has.
    (j, subst (λ (u : Tree). IsPlain u j) (sym (is_tree r t ref has ∙ ap plain_tree is)) plain, w)

-- one that is written as one token
pub token_is : {E : Type 0} (result : Result (Unit {0}) E) (r shape : ValueRef) (old new : Written) (x : Token) (j : Json) → r ≡ shape → IsPlainRef r → json_tokens j ≡ x ∷ [] → IsPlain (plain_tree shape) j → Writes result old new x
    → OnOk result (WritesPlainOf r old.tokens new.tokens)
token_is result r shape old new x j is ref e plain w =
    on_ok_weaker result (λ more. leaf_is r shape old.tokens new.tokens j is ref plain (more ∙ ap (λ ts. old.tokens ++ ts) (sym e))) w.ok

-- a long string that is UTF-8
pub text_is_plain : (s t : List ℕ) → t ≡ s → IsUtf8 s → string t ≡ string (if is_utf8 s then s else encode_lower s)
text_is_plain s t e h = ap string e ∙ (rw (is_utf8-from_IsUtf8 s h))

known : (s : List ℕ) (b : Bool) → is_utf8 s ≡ b → (IsUtf8 s → ⊥) → b ≡ false
known s true e h = absurd (h (IsUtf8-from_is_utf8 s e))
known s false e h = refl

-- and one that isn't
pub digits_are_plain : (s : List ℕ) → (IsUtf8 s → ⊥) → string (encode_lower s) ≡ string (if is_utf8 s then s else encode_lower s)
digits_are_plain s h = rw (known s (is_utf8 s) refl h)

-- one that is written as another value's JSON is
pub json_is : {E : Type 0} (result : Result (Unit {0}) E) (r shape : ValueRef) (old new : List Token) (j : Json) → r ≡ shape → IsPlainRef r → IsPlain (plain_tree shape) j → OnOk result (WritesJson old new j)
    → OnOk result (WritesPlainOf r old new)
json_is result r shape old new j is ref plain ok = on_ok_weaker result (λ w. leaf_is r shape old new j is ref plain w) ok
