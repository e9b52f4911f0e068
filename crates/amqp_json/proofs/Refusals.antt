-- `IsRefusal`: what refuses a part refuses the array or object that has it. For `src/reading/walk.rt`.
use Rattle.std.proofs.Common.{◌≡◌, ℕ, suc, ◌≤◌, ◌<◌, ◌-◌, true, false, drop, List, [], ◌∷◌, ◌++◌, length, Option, Some, None, option_and_then, refl, sym, ap, ◌∙◌, subst, arith, append_assoc}
use Rattle.json.specs.Token.{Token, begin_array, end_array, begin_object, end_object, key}
use Rattle.json.specs.Json as json
use Rattle.json.specs.Json.{parse_map, read_key, value, if_last}
use Rattle.json.specs.Tree.{json_tokens}
use Rattle.json.proofs.Grammar.{value-begin_array, value-begin_object, items_end, members_end, members_no_key}
use Rattle.json.proofs.Printed.Trees.{value-json_tokens}
use Rattle.amqp_value_core.specs.declared.types.amqp_type.AMQPType.{AMQPType}
use Rattle.amqp_value_core.specs.Values.{Tree, array, no_trees, no_entries}
use Rattle.amqp_json.specs.declared.error.JsonError.{JsonError}
use Rattle.amqp_json.specs.declared.error.JsonError.TheVariants.{Syntax, TooDeep, NotAValue}
use Rattle.amqp_json.specs.Nesting.{fits, OpensTooMany, ReportsNestingOf}
use Rattle.amqp_json.specs.reading.Puts.{IsSyntax, OnMismatch, IsLeaf, IsLeafRefusal, IsNamed, IsRefusal, GoesTooDeep, IsWrongBefore, items_at, members_at, array_of, object_meant, next_token, converted}
use Rattle.amqp_json.specs.Meaning.{is_type_key, type_named, meaning, meanings, pairs_of, table_of}
use Rattle.amqp_json.proofs.MeantContainers.{none_of, converted_some, spelled_as, converted-items, array_meant, object_is, table_is, table_first, next_is}
use Rattle.amqp_json.proofs.Levels.{opens-some, StartsAs, starts, longer, first_is, no_key, json_fits, alone_fits}
use Rattle.amqp_json.proofs.ObjectKeys.{no_value, no_named}

module _ {A B : Type 0} (depth : ℕ) (f : A → Option B) (read : ℕ → List Token → Option (A × List Token)) (ts : List Token) where
  -- nothing is read
  pub refusal_of : (e : JsonError) → IsSyntax e → ((d : ℕ) → depth ≤ d → read d ts ≡ None) → IsWrongBefore depth f read ts → IsRefusal depth e f read ts
  refusal_of (Syntax at error) is h w = (h, w)
  refusal_of _ is h w = absurd is

  -- nothing has what is read
  pub refusal_by : (e : JsonError) (P : Type 0) → (P → (d : ℕ) → depth ≤ d → converted f (read d ts) ≡ None) → (P → IsWrongBefore depth f read ts) → OnMismatch e P → IsRefusal depth e f read ts
  refusal_by (Syntax at error) P h w k = absurd k
  refusal_by (TooDeep at) P h w k = absurd k
  refusal_by (NotAValue at m) P h w k = (h k, w k)
  refusal_by _ P h w k = tt

  -- after the tokens c nothing is converted, however they go on
  pub wrong_after : (inner : ℕ) (c s : List Token) → ts ≡ c ++ s → ((us : List Token) → fits depth (c ++ us) ≡ fits inner us)
      → ((d : ℕ) (us : List Token) → depth ≤ d → StartsAs s us → converted f (read d (c ++ us)) ≡ None) → IsWrongBefore depth f read ts
  wrong_after inner c s split room none front rest more d e deep le =
      let (a, is, left, many) = longer depth inner c s ts front rest split room e deep in
      ap (λ l. converted f (read d l)) (ap (λ l. l ++ more) is ∙ append_assoc c a more) ∙ none d (a ++ more) le (starts inner s a rest more left many)

  -- nor after their first one
  pub wrong_first : (t : Token) (s : List Token) → ts ≡ t ∷ s → ((d : ℕ) (us : List Token) → depth ≤ d → converted f (read d (t ∷ us)) ≡ None) → IsWrongBefore depth f read ts
  wrong_first t s split none =
      wrong_after depth [] ts refl (λ us. refl)
      (λ d us le start. ap (λ l. converted f (read d l)) (first_is t s ts us split start).1 ∙ none d (first_is t s ts us split start).0 le)

  -- there are none
  pub wrong_end : ts ≡ [] → IsWrongBefore depth f read ts
  wrong_end none = wrong_after depth [] ts refl (λ us. refl) (λ d us le (t, s, us', e, g). absurd (cc (none, e)))

  -- a part of it is refused, after the tokens c
  module _ {C D : Type 0} (down : ℕ → ℕ) (g : C → Option D) (part : ℕ → List Token → Option (C × List Token)) (c s : List Token) (split : ts ≡ c ++ s)
      (room : (us : List Token) → fits depth (c ++ us) ≡ fits (down depth) us) where
    pub wrong_on : ((d : ℕ) → depth ≤ d → down depth ≤ down d) → ((d : ℕ) (us : List Token) → depth ≤ d → StartsAs s us → converted g (part (down d) us) ≡ None → converted f (read d (c ++ us)) ≡ None)
        → IsWrongBefore (down depth) g part s → IsWrongBefore depth f read ts
    wrong_on lower k w front rest more d e deep le =
        let (a, is, left, many) = longer depth (down depth) c s ts front rest split room e deep in
        ap (λ l. converted f (read d l)) (ap (λ l. l ++ more) is ∙ append_assoc c a more)
        ∙ k d (a ++ more) le (starts (down depth) s a rest more left many) (w a rest more (down d) left many (lower d le))

    pub deep_on : ((d : ℕ) → depth < d → down depth < down d) → (h : D → B) (closing : List Token)
        → ((d : ℕ) (us after : List Token) (x : D) → depth < d → StartsAs s us → converted g (part (down d) us) ≡ Some (x, closing ++ after) → converted f (read d (c ++ us)) ≡ Some (h x, after))
        → GoesTooDeep (down depth) g part s → GoesTooDeep depth f read ts
    deep_on lower h closing k w = record {
      front = c ++ w.front;
      rest = w.rest;
      more = w.more ++ closing;
      meant = h w.meant;
      split = split ∙ ap (λ l. c ++ l) w.split ∙ sym (append_assoc c w.front w.rest);
      deep = room w.front ∙ w.deep;
      goes_on = λ d after lt.
          let joined : (c ++ w.front) ++ ((w.more ++ closing) ++ after) ≡ c ++ (w.front ++ (w.more ++ (closing ++ after))) = append_assoc c w.front ((w.more ++ closing) ++ after) ∙ ap (λ l. c ++ (w.front ++ l)) (append_assoc w.more closing after) in
          ap (λ l. converted f (read d l)) joined
          ∙ k d (w.front ++ (w.more ++ (closing ++ after))) after w.meant lt (starts (down depth) s w.front w.rest (w.more ++ (closing ++ after)) w.split w.deep) (w.goes_on (down d) (closing ++ after) (lower d lt));
    }

    pub refusal_on : (e : JsonError) → ((d : ℕ) → depth ≤ d → down depth ≤ down d) → ((d : ℕ) → depth ≤ d → part (down d) s ≡ None → read d ts ≡ None)
        → ((d : ℕ) → depth ≤ d → converted g (part (down d) s) ≡ None → converted f (read d ts) ≡ None) → (IsWrongBefore (down depth) g part s → IsWrongBefore depth f read ts)
        → (GoesTooDeep (down depth) g part s → GoesTooDeep depth f read ts) → IsRefusal (down depth) e g part s → IsRefusal depth e f read ts
    refusal_on (Syntax at error) lower h k w y x = (λ d le. h d le (x.0 (down d) (lower d le)), w x.1)
    refusal_on (TooDeep at) lower h k w y x = (k depth (omega arith) x.0, y x.1)
    refusal_on (NotAValue at m) lower h k w y x = (λ d le. k d le (x.0 (down d) (lower d le)), w x.1)
    refusal_on _ lower h k w y x = tt

-- nothing has what was read
pub mismatch_of : (e : JsonError) (P : Type 0) → OnMismatch e (Unit {0}) → P → OnMismatch e P
mismatch_of (Syntax at error) P is h = absurd is
mismatch_of (TooDeep at) P is h = absurd is
mismatch_of (NotAValue at m) P is h = h
mismatch_of _ P is h = tt

-- what is inside of an array or an object is a level deeper

pub array_refused : (depth : ℕ) (ts s : List Token) (e : JsonError) → 0 < depth → ts ≡ begin_array ∷ s → IsRefusal (depth - 1) e meanings items_at s → IsRefusal depth e meaning value ts
array_refused depth ts s e some is =
    let room : (us : List Token) → fits depth (begin_array ∷ us) ≡ fits (depth - 1) us = λ us. opens-some depth (λ n. fits n us) some in
    let lower : (d : ℕ) → depth ≤ d → depth - 1 ≤ d - 1 = λ d le. omega (arith, le) in
    refusal_on depth meaning value ts (λ d. d - 1) meanings items_at (begin_array ∷ []) s is room e lower
    (λ d le none. ap (value d) is ∙ value-begin_array d s (omega (arith, le, some)) ∙ ap (parse_map json.array) none)
    (λ d le none. ap (λ us. converted meaning (value d us)) is ∙ array_meant d s (omega (arith, le, some)) ∙ converted-items (items_at (d - 1) s) ∙ ap (parse_map array) none)
    (wrong_on depth meaning value ts (λ d. d - 1) meanings items_at (begin_array ∷ []) s is room lower
    (λ d us le start none. array_meant d us (omega (arith, le, some)) ∙ converted-items (items_at (d - 1) us) ∙ ap (parse_map array) none))
    (deep_on depth meaning value ts (λ d. d - 1) meanings items_at (begin_array ∷ []) s is room (λ d lt. omega (arith, lt, some)) array []
    (λ d us after x lt start found. array_meant d us (omega (arith, lt)) ∙ converted-items (items_at (d - 1) us) ∙ ap (parse_map array) found))

pub object_refused : (depth : ℕ) (ts s : List Token) (e : JsonError) → 0 < depth → ts ≡ begin_object ∷ s → IsRefusal (depth - 1) e object_meant members_at s → IsRefusal depth e meaning value ts
object_refused depth ts s e some is =
    let room : (us : List Token) → fits depth (begin_object ∷ us) ≡ fits (depth - 1) us = λ us. opens-some depth (λ n. fits n us) some in
    let lower : (d : ℕ) → depth ≤ d → depth - 1 ≤ d - 1 = λ d le. omega (arith, le) in
    refusal_on depth meaning value ts (λ d. d - 1) object_meant members_at (begin_object ∷ []) s is room e lower
    (λ d le none. ap (value d) is ∙ value-begin_object d s (omega (arith, le, some)) ∙ ap (parse_map json.object) none)
    (λ d le none. ap (λ us. converted meaning (value d us)) is ∙ object_is d s (omega (arith, le, some)) ∙ none)
    (wrong_on depth meaning value ts (λ d. d - 1) object_meant members_at (begin_object ∷ []) s is room lower
    (λ d us le start none. object_is d us (omega (arith, le, some)) ∙ none))
    (deep_on depth meaning value ts (λ d. d - 1) object_meant members_at (begin_object ∷ []) s is room (λ d lt. omega (arith, lt, some)) (λ v. v) []
    (λ d us after x lt start found. object_is d us (omega (arith, lt)) ∙ found))

-- an object whose first key isn't a type key is refused as a table
pub table_refused : (depth : ℕ) (s mid : List Token) (o : Option (List ℕ)) → ((k : List ℕ) → o ≡ Some k → is_type_key k ≡ false) → read_key s ≡ Some (o, mid) → (e : JsonError)
    → IsRefusal depth e pairs_of members_at (next_token o ∷ mid) → IsRefusal depth e object_meant members_at s
table_refused depth s mid o plain first e =
    let is : s ≡ next_token o ∷ mid = next_is s o mid first in
    let all : (d : ℕ) (us : List Token) → StartsAs (next_token o ∷ mid) us → converted object_meant (members_at d us) ≡ parse_map table_of (converted pairs_of (members_at d us)) =
    λ d us start.
    let (us', at) = first_is (next_token o) mid (next_token o ∷ mid) us refl start in
    ap (λ l. converted object_meant (members_at d l)) at ∙ table_first (value d) o us' plain ∙ ap (λ l. parse_map table_of (converted pairs_of (members_at d l))) (sym at) in
    refusal_on depth object_meant members_at s (λ d. d) pairs_of members_at [] (next_token o ∷ mid) is (λ us. refl) e (λ d le. le)
    (λ d le none. ap (members_at d) is ∙ none)
    (λ d le none. table_is d s mid o plain first ∙ ap (parse_map table_of) none)
    (wrong_on depth object_meant members_at s (λ d. d) pairs_of members_at [] (next_token o ∷ mid) is (λ us. refl) (λ d le. le)
    (λ d us le start none. all d us start ∙ ap (parse_map table_of) none))
    (deep_on depth object_meant members_at s (λ d. d) pairs_of members_at [] (next_token o ∷ mid) is (λ us. refl) (λ d lt. lt) table_of []
    (λ d us after x lt start found. all d us start ∙ ap (parse_map table_of) found))

pub named_refused : (depth : ℕ) (s mid : List Token) (o : Option (List ℕ)) (k name : List ℕ) → read_key s ≡ Some (o, mid) → o ≡ Some k → is_type_key k ≡ true → name ≡ drop 1 k → (e : JsonError)
    → IsNamed name mid (λ depth ts. IsRefusal depth e object_meant members_at ts) → IsRefusal depth e object_meant members_at s
named_refused depth s mid o k name first is type same e h =
    let at : s ≡ key k ∷ mid = next_is s o mid first ∙ ap (λ x. next_token x ∷ mid) is in
    subst (λ (ts : List Token). IsRefusal depth e object_meant members_at ts) (sym at) (h k depth type same)

-- no key is first
pub keyless_refused : (depth : ℕ) (s : List Token) (e : JsonError) → IsSyntax e → read_key s ≡ None → IsRefusal depth e object_meant members_at s
keyless_refused depth s e is none =
    refusal_of depth object_meant members_at s e is (λ d le. members_no_key (value d) _ s none)
    (wrong_after depth object_meant members_at s depth [] s refl (λ us. refl) (λ d us le start. ap (converted object_meant) (members_no_key (value d) _ us (no_key s us start none))))

-- ---- an object whose first key is the name of a type

-- what follows the name is no value of the type
pub leaf_refused : (type : AMQPType) (name : List ℕ) → type_named name ≡ Some type → (t : Token) (ts : List Token) (e : JsonError) → IsLeafRefusal e type t → IsNamed name (t ∷ ts) (λ depth us. IsRefusal depth e object_meant members_at us)
leaf_refused type name known t ts (Syntax at error) h k depth is same = (
  λ d le. no_value d k is (t ∷ ts) (h d ts),
  wrong_after depth object_meant members_at (key k ∷ t ∷ ts) depth (key k ∷ []) (t ∷ ts) refl (λ us. refl)
      (λ d us le start.
      let (us', at) = first_is t ts (t ∷ ts) us refl start in
      ap (λ l. converted object_meant (members_at d (key k ∷ l))) at ∙ ap (converted object_meant) (no_value d k is (t ∷ us') (h d us'))),
)
leaf_refused type name known t ts (TooDeep at) h k depth is same = absurd h
leaf_refused type name known t ts (NotAValue at m) h k depth is same = (
  λ d le. no_named d k is (t ∷ ts) (Some type) (ap type_named (sym same) ∙ known) (λ j r at. h d ts r j at),
  wrong_after depth object_meant members_at (key k ∷ t ∷ ts) depth (key k ∷ []) (t ∷ ts) refl (λ us. refl)
      (λ d us le start.
      let (us', at) = first_is t ts (t ∷ ts) us refl start in
      ap (λ l. converted object_meant (members_at d (key k ∷ l))) at ∙ no_named d k is (t ∷ us') (Some type) (ap type_named (sym same) ∙ known) (λ j r at. h d us' r j at)),
)
leaf_refused type name known t ts _ h k depth is same = tt

-- the tokens go on as they don't may after the key and its value
pub wrong_after_leaf : (depth : ℕ) (k : List ℕ) (t : Token) (ts s : List Token) (type : AMQPType) (v : Tree) → IsLeaf type t v → ts ≡ t ∷ s
    → ((d : ℕ) (us : List Token) → StartsAs s us → converted object_meant (members_at d (key k ∷ t ∷ us)) ≡ None) → IsWrongBefore depth object_meant members_at (key k ∷ ts)
wrong_after_leaf depth k t ts s type v (j, at, means) first none =
    wrong_after depth object_meant members_at (key k ∷ ts) depth (key k ∷ t ∷ []) s (ap (λ l. key k ∷ l) first) (λ us. alone_fits t j depth (λ n. fits n us) (at 0 [])) (λ d us le start. none d us start)

-- ---- a bracket that opens one too many

pub deep_array : (depth : ℕ) (ts s : List Token) → ts ≡ begin_array ∷ s → depth ≡ 0 → GoesTooDeep depth meaning value ts
deep_array depth ts s is none = record {
  front = begin_array ∷ [];
  rest = s;
  more = end_array ∷ [];
  meant = array no_trees;
  split = is;
  deep = ap (λ n. fits n (begin_array ∷ [])) none;
  goes_on = λ d after lt.
      array_meant d (end_array ∷ after) (omega (arith, lt)) ∙ ap (converted array_of) (items_end (value (d - 1)) (length (end_array ∷ after)) (end_array ∷ after) after (omega arith) refl);
}

pub deep_object : (depth : ℕ) (ts s : List Token) → ts ≡ begin_object ∷ s → depth ≡ 0 → GoesTooDeep depth meaning value ts
deep_object depth ts s is none = record {
  front = begin_object ∷ [];
  rest = s;
  more = end_object ∷ [];
  meant = table_of no_entries;
  split = is;
  deep = ap (λ n. fits n (begin_object ∷ [])) none;
  goes_on = λ d after lt.
      object_is d (end_object ∷ after) (omega (arith, lt)) ∙ ap (converted object_meant) (members_end (value (d - 1)) (length (end_object ∷ after)) (end_object ∷ after) after (omega arith) refl);
}

-- ---- all tokens of a text

no_document : (o : Option (json.Json × List Token)) → converted meaning o ≡ None → option_and_then meaning (option_and_then (λ p. if_last p.0 p.1) o) ≡ None
no_document None e = refl
no_document (Some (j, [])) e = none_of [] (meaning j) e
no_document (Some (j, t ∷ ts)) e = refl

never_deep : (most : ℕ) (ts : List Token) → IsWrongBefore most meaning value ts → OpensTooMany most ts → ⊥
never_deep most ts wrong (front, rest, more, v, split, deep, means) = cc (no_document (value (suc most) (front ++ more)) (wrong front rest more (suc most) split deep (omega arith)), means)

pub document_refused : (most : ℕ) (ts : List Token) (e : JsonError) → IsRefusal most e meaning value ts → ReportsNestingOf most e ts
document_refused most ts (Syntax at error) h = never_deep most ts h.1
document_refused most ts (NotAValue at m) h = never_deep most ts h.1
document_refused most ts (TooDeep at) h =
    let w = h.1 in
    let (j, read, means) = converted_some meaning (value (suc most) (w.front ++ (w.more ++ []))) w.meant [] (w.goes_on (suc most) [] (omega arith)) in
    (w.front, w.rest, w.more ++ [], w.meant, w.split, w.deep, ap (λ o. option_and_then meaning (option_and_then (λ p. if_last p.0 p.1) o)) read ∙ means)
document_refused most ts _ h = tt

-- another token follows the value
pub more_tokens : (most : ℕ) (ts s : List Token) (t : Token) (v : Tree) → converted meaning (value most ts) ≡ Some (v, t ∷ s) → OpensTooMany most ts → ⊥
more_tokens most ts s t v found (front, rest, more, u, split, deep, means) =
    let (j, spelled, meant, shallow) = spelled_as most ts (t ∷ s) v found in
    let (a, same, left, many) = longer most most (json_tokens j) (t ∷ s) ts front rest spelled (λ us. json_fits j most us shallow) split deep in
    let (us, at) = first_is t s (t ∷ s) (a ++ more) refl (starts most (t ∷ s) a rest more left many) in
    let whole : front ++ more ≡ json_tokens j ++ (t ∷ us) = ap (λ l. l ++ more) same ∙ append_assoc (json_tokens j) a more ∙ ap (λ l. json_tokens j ++ l) at in
    let read : value (suc most) (front ++ more) ≡ Some (j, t ∷ us) = ap (value (suc most)) whole ∙ value-json_tokens j (suc most) (t ∷ us) (omega (arith, shallow)) in
    cc (ap (λ o. option_and_then meaning (option_and_then (λ p. if_last p.0 p.1) o)) read, means)
