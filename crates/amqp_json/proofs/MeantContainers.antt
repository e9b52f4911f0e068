-- What an array or an object means (`array_of`, `object_meant`), item by item, member by member.
use Rattle.std.proofs.Common.{◌≡◌, ℕ, zero, suc, ◌-◌, ◌<◌, ◌≤◌, List, ◌∷◌, ◌++◌, length, false, Option, Some, None, option_map, option_and_then, refl, sym, ap, ◌∙◌, arith}
use Rattle.json.specs.Token.{Token, key}
use Rattle.json.specs.Json as json
use Rattle.json.specs.Json.{Parse, parse_map, after_end_array, read_key, items_step, items, members}
use Rattle.json.specs.Tree.{json_tokens, depth as json_depth}
use Rattle.json.proofs.Nesting.{value-depth}
use Rattle.json.proofs.Printed.Trees.{value-json_tokens}
use Rattle.json.proofs.Unique.Spelling.{value-json_tokens_back}
use Rattle.json.proofs.Grammar.{value-begin_array, value-begin_object, items_end, items_more, members_more, read_key_is}
use Rattle.amqp_value_core.specs.Values.{Tree, array, no_trees, tree, Entries, no_entries, entry}
use Rattle.amqp_json.specs.Meaning.{is_type_key, entry_key, with_entry, meaning, meanings, pairs_of, object_of, table_of}
use Rattle.amqp_json.specs.reading.Puts.{array_of, object_meant, items_at, members_at, next_token, converted}

abbrev pick : {A : Type 0} → A → Option A → A
pick d None = d
pick d (Some a) = a

found : {A B : Type 0} (a : A) (r s : List Token) (x : Option B) (b : B) → option_map {U = B × List Token} (λ y. (y, r)) x ≡ Some (b, s) → (r ≡ s) × (x ≡ Some b)
found a r s None b e = absurd (cc)
found a r s (Some y) b e = let same = ap (pick (y, r)) e in (ap (λ p. p.1) same, ap (λ p. Some p.0) same)

pub converted_some : {A B : Type 0} (f : A → Option B) (o : Option (A × List Token)) (b : B) (r : List Token) → converted f o ≡ Some (b, r) → (a : A) × (o ≡ Some (a, r)) × (f a ≡ Some b)
converted_some f None b r e = absurd (cc)
converted_some f (Some p) b r e = let both = found p.0 p.1 r (f p.0) b e in (p.0, ap (λ s. Some (p.0, s)) both.0, both.1)

-- nothing is converted from what is read
pub none_of : {B : Type 0} (r : List Token) (x : Option B) → option_map {U = B × List Token} (λ y. (y, r)) x ≡ None → x ≡ None
none_of r None e = refl
none_of r (Some y) e = absurd (cc)

twice : {A B : Type 0} (g : A → B) (r : List Token) (x : Option A) → option_map (λ b. (b, r)) (option_map g x) ≡ parse_map g (option_map (λ a. (a, r)) x)
twice g r None = refl
twice g r (Some a) = refl

pub map_twice : {A B C : Type 0} (f : B → C) (g : A → B) (o : Option (A × List Token)) → parse_map f (parse_map g o) ≡ parse_map (λ a. f (g a)) o
map_twice f g None = refl
map_twice f g (Some p) = refl

pub map_same : {A : Type 0} (o : Option (A × List Token)) → o ≡ parse_map (λ a. a) o
map_same None = refl
map_same (Some p) = refl

pub converted-array : (o : Option (json.Items × List Token)) → converted meaning (parse_map json.array o) ≡ converted array_of o
converted-array None = refl
converted-array (Some p) = refl

pub converted-items : (o : Option (json.Items × List Token)) → converted array_of o ≡ parse_map array (converted meanings o)
converted-items None = refl
converted-items (Some p) = twice array p.1 (meanings p.0)

pub converted-object : (o : Option (json.Members × List Token)) → converted meaning (parse_map json.object o) ≡ converted object_meant o
converted-object None = refl
converted-object (Some p) = refl

with_item : (j : json.Json) (v : Tree) → meaning j ≡ Some v → (o : Option (json.Items × List Token)) → converted meanings (parse_map (json.item j) o) ≡ parse_map (tree v) (converted meanings o)
with_item j v e None = refl
with_item j v e (Some p) = rw e (twice (tree v) p.1 (meanings p.0))

without_item : (j : json.Json) → meaning j ≡ None → (o : Option (json.Items × List Token)) → converted meanings (parse_map (json.item j) o) ≡ None
without_item j e None = refl
without_item j e (Some p) = rw e refl

-- a key that is no name, and short enough, and its value
with_member : (k : List ℕ) (j : json.Json) (v : Tree) → ((ps : Option Entries) → with_entry k (Some v) ps ≡ option_map (entry (entry_key k) v) ps) → meaning j ≡ Some v → (o : Option (json.Members × List Token))
    → converted pairs_of (parse_map (json.member k j) o) ≡ parse_map (entry (entry_key k) v) (converted pairs_of o)
with_member k j v put e None = refl
with_member k j v put e (Some p) = rw e (ap (option_map (λ ps. (ps, p.1))) (put (pairs_of p.0)) ∙ twice (entry (entry_key k) v) p.1 (pairs_of p.0))

without_member : (k : List ℕ) (j : json.Json) → ((ps : Option Entries) → with_entry k (meaning j) ps ≡ None) → (o : Option (json.Members × List Token)) → converted pairs_of (parse_map (json.member k j) o) ≡ None
without_member k j e None = refl
without_member k j e (Some p) = ap (option_map (λ ps. (ps, p.1))) (e (pairs_of p.0))

-- a token that is a value by itself
pub token_means : (d : ℕ) (ts s : List Token) (t : Token) (j : json.Json) (v : Option Tree) → ts ≡ t ∷ s → json.value d (t ∷ s) ≡ Some (j, s) → meaning j ≡ v → converted meaning (json.value d ts) ≡ option_map (λ u. (u, s)) v
token_means d ts s t j v is read means = ap (λ us. converted meaning (json.value d us)) is ∙ ap (converted meaning) read ∙ ap (option_map (λ u. (u, s))) means

-- no level is left
pub no_level : (depth : ℕ) (ts s : List Token) (t : Token) → ts ≡ t ∷ s → depth ≡ 0 → json.value 0 (t ∷ s) ≡ None → converted meaning (json.value depth ts) ≡ None
no_level depth ts s t is none read = ap (λ us. converted meaning (json.value depth us)) is ∙ ap (λ n. converted meaning (json.value n (t ∷ s))) none ∙ ap (converted meaning) read

pub next_is : (ts : List Token) (o : Option (List ℕ)) (r : List Token) → read_key ts ≡ Some (o, r) → ts ≡ next_token o ∷ r
next_is ts None r e = read_key_is ts None r e
next_is ts (Some k) r e = read_key_is ts (Some k) r e

module _ (p : Parse json.Json) where
  pub item_read : (n : ℕ) (ts r : List Token) (v : Tree) → 0 < n → after_end_array ts ≡ None → converted meaning (p ts) ≡ Some (v, r)
      → converted meanings (items p n ts) ≡ parse_map (tree v) (converted meanings (items p (n - 1) r))
  item_read n ts r v some going e = let j = converted_some meaning (p ts) v r e in ap (converted meanings) (items_more p n ts r j.0 some going j.1) ∙ with_item j.0 v j.2 _

  -- after an item nothing is read
  pub no_item_after : (n : ℕ) (ts r : List Token) (v : Tree) → 0 < n → after_end_array ts ≡ None → converted meaning (p ts) ≡ Some (v, r) → items p (n - 1) r ≡ None → items p n ts ≡ None
  no_item_after n ts r v some going e none = let j = converted_some meaning (p ts) v r e in items_more p n ts r j.0 some going j.1 ∙ ap (parse_map (json.item j.0)) none

  no_item : (more : Parse json.Items) (o : Option (json.Json × List Token)) → converted meaning o ≡ None → converted meanings (option_and_then (λ q. parse_map (json.item q.0) (more q.1)) o) ≡ None
  no_item more None e = refl
  no_item more (Some q) e = without_item q.0 (none_of q.1 (meaning q.0) e) (more q.1)

  pub item_refused : (n : ℕ) (ts : List Token) → after_end_array ts ≡ None → converted meaning (p ts) ≡ None → converted meanings (items p n ts) ≡ None
  unfolding items
  item_refused zero ts going e = refl
  item_refused (suc n) ts going e = ap (λ o. converted meanings (items_step p (items p n) ts o)) going ∙ no_item (items p n) (p ts) e

  pub items_over : (n : ℕ) (ts r : List Token) → length ts ≤ n → after_end_array ts ≡ Some r → converted meanings (items p n ts) ≡ Some (no_trees, r)
  items_over n ts r enough e = ap (converted meanings) (items_end p n ts r enough e)

  pub member_read : (n : ℕ) (k : List ℕ) (s r : List Token) (v : Tree) → 0 < n → ((ps : Option Entries) → with_entry k (Some v) ps ≡ option_map (entry (entry_key k) v) ps) → converted meaning (p s) ≡ Some (v, r)
      → converted pairs_of (members p n (key k ∷ s)) ≡ parse_map (entry (entry_key k) v) (converted pairs_of (members p (n - 1) r))
  member_read n k s r v some put e =
      let j = converted_some meaning (p s) v r e in
      ap (converted pairs_of) (members_more p n k (key k ∷ s) s r j.0 some refl j.1) ∙ with_member k j.0 v put j.2 _

  pub no_member_after : (n : ℕ) (k : List ℕ) (s r : List Token) (v : Tree) → 0 < n → converted meaning (p s) ≡ Some (v, r) → members p (n - 1) r ≡ None → members p n (key k ∷ s) ≡ None
  no_member_after n k s r v some e none = let j = converted_some meaning (p s) v r e in members_more p n k (key k ∷ s) s r j.0 some refl j.1 ∙ ap (parse_map (json.member k j.0)) none

  no_member : (k : List ℕ) (more : Parse json.Members) (o : Option (json.Json × List Token)) → ((j : json.Json) (r : List Token) → o ≡ Some (j, r) → (ps : Option Entries) → with_entry k (meaning j) ps ≡ None)
      → converted pairs_of (option_and_then (λ q. parse_map (json.member k q.0) (more q.1)) o) ≡ None
  no_member k more None e = refl
  no_member k more (Some q) e = without_member k q.0 (e q.0 q.1 refl) (more q.1)

  -- a key or a value is none of a table
  pub member_refused : (n : ℕ) (k : List ℕ) (s : List Token) → ((j : json.Json) (r : List Token) → p s ≡ Some (j, r) → (ps : Option Entries) → with_entry k (meaning j) ps ≡ None)
      → converted pairs_of (members p n (key k ∷ s)) ≡ None
  unfolding members
  member_refused zero k s e = refl
  member_refused (suc n) k s e = no_member k (members p n) (p s) e

  pub members_over : (n : ℕ) (r : List Token) → 0 < n → converted pairs_of (members p n (next_token None ∷ r)) ≡ Some (no_entries, r)
  unfolding members
  members_over zero r some = let never : ⊥ = omega (arith, some) in absurd never
  members_over (suc n) r some = refl

  -- ---- an object whose first key is no name is a table

  entries_of_object : (k : List ℕ) (j : json.Json) (ms : json.Members) (o : Option Entries) → is_type_key k ≡ false → object_of (json.member k j ms) o ≡ option_map table_of o
  entries_of_object k j json.no_members o e = rw e refl
  entries_of_object k j (json.member l i ms) o e = refl

  as_table : (k : List ℕ) (j : json.Json) (o : Option (json.Members × List Token)) → is_type_key k ≡ false
      → converted object_meant (parse_map (json.member k j) o) ≡ parse_map table_of (converted pairs_of (parse_map (json.member k j) o))
  as_table k j None e = refl
  as_table k j (Some q) e = ap (option_map (λ v. (v, q.1))) (entries_of_object k j q.0 (pairs_of (json.member k j q.0)) e) ∙ twice table_of q.1 (pairs_of (json.member k j q.0))

  as_tables : (k : List ℕ) (more : Parse json.Members) (o : Option (json.Json × List Token)) → is_type_key k ≡ false
      → converted object_meant (option_and_then (λ q. parse_map (json.member k q.0) (more q.1)) o) ≡ parse_map table_of (converted pairs_of (option_and_then (λ q. parse_map (json.member k q.0) (more q.1)) o))
  as_tables k more None e = refl
  as_tables k more (Some q) e = as_table k q.0 (more q.1) e

  pub table_first : (o : Option (List ℕ)) (r : List Token) → ((k : List ℕ) → o ≡ Some k → is_type_key k ≡ false)
      → converted object_meant (members p (length (next_token o ∷ r)) (next_token o ∷ r)) ≡ parse_map table_of (converted pairs_of (members p (length (next_token o ∷ r)) (next_token o ∷ r)))
  unfolding members
  table_first None r plain = refl
  table_first (Some k) r plain = as_tables k (members p (length r)) (p r) (plain k refl)

pub none_is : (o : Option (json.Json × List Token)) (j : json.Json) (r : List Token) → o ≡ Some (j, r) → converted meaning o ≡ None → meaning j ≡ None
none_is o j r is none = none_of r (meaning j) (sym (ap (converted meaning) is) ∙ none)

-- ---- what a value is that is an array or an object

pub array_meant : (d : ℕ) (s : List Token) → 0 < d → converted meaning (json.value d (Token.begin_array ∷ s)) ≡ converted array_of (items_at (d - 1) s)
array_meant d s some = ap (converted meaning) (value-begin_array d s some) ∙ converted-array (items_at (d - 1) s)

pub object_is : (d : ℕ) (s : List Token) → 0 < d → converted meaning (json.value d (Token.begin_object ∷ s)) ≡ converted object_meant (members_at (d - 1) s)
object_is d s some = ap (converted meaning) (value-begin_object d s some) ∙ converted-object (members_at (d - 1) s)

pub table_is : (d : ℕ) (s mid : List Token) (o : Option (List ℕ)) → ((k : List ℕ) → o ≡ Some k → is_type_key k ≡ false) → read_key s ≡ Some (o, mid)
    → converted object_meant (members_at d s) ≡ parse_map table_of (converted pairs_of (members_at d (next_token o ∷ mid)))
table_is d s mid o plain first = ap (λ ts. converted object_meant (members_at d ts)) (next_is s o mid first) ∙ table_first (json.value d) o mid plain

-- ---- a value in other tokens

-- what is converted from tokens is converted from the tokens of a JSON value, whatever follows them
pub spelled_as : (depth : ℕ) (ts r : List Token) (v : Tree) → converted meaning (json.value depth ts) ≡ Some (v, r) → (j : json.Json) × (ts ≡ json_tokens j ++ r) × (meaning j ≡ Some v) × (json_depth j ≤ depth)
spelled_as depth ts r v e =
    let (j, read, means) = converted_some meaning (json.value depth ts) v r e in
    (j, value-json_tokens_back depth ts r j read, means, value-depth depth ts r j read)

pub read_again : (d : ℕ) (j : json.Json) (us : List Token) (v : Tree) → json_depth j ≤ d → meaning j ≡ Some v → converted meaning (json.value d (json_tokens j ++ us)) ≡ Some (v, us)
read_again d j us v shallow means = ap (converted meaning) (value-json_tokens j d us shallow) ∙ ap (option_map (λ b. (b, us))) means
