-- Keys of objects: of entries, and type keys, which are `$` and the name of a type.
use Rattle.std.proofs.Common.{◌≡◌, ◌≢◌, true, false, drop, ℕ, ◌==◌, List, [], ◌∷◌, get_or, refl, ap, ◌∙◌, arith, Bool, cond, length, Option, Some, None, option_map, option_and_then, le-ltb, zero, suc, ◌-◌, sym, Bor, ◌⊎◌, inl, inr}
use Rattle.std.specs.Prelude.{nat_lt, ◌||◌}
use Rattle.amqp_value_core.specs.Bytes.{IsShort}
use Rattle.amqp_value_core.specs.Values.{Tree, Entries, entry}
use Rattle.amqp_json.specs.Meaning.{is_type_key, entry_key, with_entry, value_as, number_as, string_as, type_named}
use Rattle.json.specs.Token as spec
use Rattle.json.specs.Token.{Token, key, number, string}
use Rattle.json.specs.Json as json
use Rattle.json.specs.Json.{Parse, parse_map, read_key, items, members, value}
use Rattle.json.specs.Reads.{token_of}
use Rattle.json.specs.declared.token.Token.{Token as KitToken}
use Rattle.json.specs.declared.token.Token.TheVariants as kit
use Rattle.json.proofs.Grammar.{value_is, members_end, members_more, members_no_key, members_fail}
use Rattle.amqp_value_core.specs.declared.types.amqp_type.AMQPType.{AMQPType}
use Rattle.amqp_json.specs.reading.Puts.{IsLeaf, IsNoLeaf, members_at, object_meant, converted}

-- ---- keys

-- a short key that is no name is that of an entry
pub entry_fits : (k : List ℕ) → is_type_key k ≡ false → IsShort (entry_key k) → (v : Tree) (ps : Option Entries) → with_entry k (Some v) ps ≡ option_map (entry (entry_key k) v) ps
entry_fits k none short v ps =
    let few : nat_lt 255 (length (entry_key k)) ≡ false = le-ltb _ _ short.few in
    rw (none, few) refl

no_pair : (b : Bool) (k : List ℕ) (ps : Option Entries) → cond b None (option_and_then {T = Tree} (λ x. option_map (entry (entry_key k) x) ps) None) ≡ None
no_pair true k ps = refl
no_pair false k ps = refl

-- without a value it is that of none
pub no_entry : (k : List ℕ) (o : Option Tree) (ps : Option Entries) → o ≡ None → with_entry k o ps ≡ None
no_entry k o ps e = ap (λ v. with_entry k v ps) e ∙ no_pair (is_type_key k || nat_lt 255 (length (entry_key k))) k ps

-- an exponent without a minus
pub no_minus : (k : List ℕ) → ((rest : List ℕ) → k ≢ 45 ∷ rest) → (get_or k 0 0 == 45) ≡ false
no_minus [] h = refl
no_minus (x ∷ xs) h = grind (arith, h xs)

-- ---- an object whose first key is a type key

-- beside another member it is none of a table
beside : (k l : List ℕ) (j i : json.Json) (ms : json.Members) → is_type_key k ≡ true → object_meant (json.member k j (json.member l i ms)) ≡ None
beside k l j i ms e = rw e refl

alone : (k : List ℕ) (j : json.Json) (type : Option AMQPType) → is_type_key k ≡ true → type_named (drop 1 k) ≡ type → object_meant (json.member k j json.no_members) ≡ option_and_then (λ t. value_as t j) type
alone k j type e known = rw (e, known) refl

module _ (depth : ℕ) (k : List ℕ) (is : is_type_key k ≡ true) where
  abbrev p : Parse json.Json
  p = value depth

  -- what it is with the value of that token, if the object ends there
  pub sole : (t : Token) (ts r : List Token) (type : AMQPType) (v : Tree) → type_named (drop 1 k) ≡ Some type → IsLeaf type t v → read_key ts ≡ Some (None, r) → converted object_meant (members_at depth (key k ∷ t ∷ ts)) ≡ Some (v, r)
  sole t ts r type v known (j, at, means) closed =
      let size = suc (length ts) in
      ap (converted object_meant) (members_more p (suc size) k (key k ∷ t ∷ ts) (t ∷ ts) ts j (omega arith) refl (at depth ts) ∙ ap (parse_map (json.member k j)) (members_end p (suc size - 1) ts r (omega arith) closed))
      ∙ ap (option_map (λ x. (x, r))) (alone k j (Some type) is known ∙ means)

  -- it isn't closed
  pub not_closed : (t : Token) (ts : List Token) (type : AMQPType) (v : Tree) → IsLeaf type t v → read_key ts ≡ None → members_at depth (key k ∷ t ∷ ts) ≡ None
  not_closed t ts type v (j, at, means) none =
      let size = suc (length ts) in
      members_more p (suc size) k (key k ∷ t ∷ ts) (t ∷ ts) ts j (omega arith) refl (at depth ts) ∙ ap (parse_map (json.member k j)) (members_no_key p (suc size - 1) ts none)

  -- no value follows
  pub no_value : (us : List Token) → p us ≡ None → members_at depth (key k ∷ us) ≡ None
  no_value us none = members_fail p (suc (length us)) k (key k ∷ us) us refl none

  others : (l : List ℕ) (j : json.Json) (more : Parse json.Members) (o : Option (json.Json × List Token))
      → converted object_meant (parse_map (json.member k j) (option_and_then (λ q. parse_map (json.member l q.0) (more q.1)) o)) ≡ None
  others l j more None = refl
  others l j more (Some q) = other (more q.1)
    where
      other : (o : Option (json.Members × List Token)) → converted object_meant (parse_map (json.member k j) (parse_map (json.member l q.0) o)) ≡ None
      other None = refl
      other (Some m) = ap (option_map (λ v. (v, m.1))) (beside k l j q.0 m.0 is)

  next_member : (l : List ℕ) (j : json.Json) (n : ℕ) (ts s : List Token) → read_key ts ≡ Some (Some l, s) → converted object_meant (parse_map (json.member k j) (members p n ts)) ≡ None
  unfolding members
  next_member l j zero ts s at = refl
  next_member l j (suc n) ts s at = rw at (others l j (members p n) (p s))

  -- another member follows
  pub not_alone : (t : Token) (ts s : List Token) (l : List ℕ) (type : AMQPType) (v : Tree) → IsLeaf type t v → read_key ts ≡ Some (Some l, s) → converted object_meant (members_at depth (key k ∷ t ∷ ts)) ≡ None
  not_alone t ts s l type v (j, at, means) next =
      let size = suc (length ts) in
      ap (converted object_meant) (members_more p (suc size) k (key k ∷ t ∷ ts) (t ∷ ts) ts j (omega arith) refl (at depth ts)) ∙ next_member l j (suc size - 1) ts s next

  without : (type : Option AMQPType) (j : json.Json) (o : Option (json.Members × List Token)) → type_named (drop 1 k) ≡ type → option_and_then (λ t. value_as t j) type ≡ None → converted object_meant (parse_map (json.member k j) o) ≡ None
  without type j None known none = refl
  without type j (Some (json.no_members, r)) known none = ap (option_map (λ v. (v, r))) (alone k j type is known ∙ none)
  without type j (Some (json.member l i ms, r)) known none = ap (option_map (λ v. (v, r))) (beside k l j i ms is)

  -- what follows is no value of the type
  pub no_named : (us : List Token) (type : Option AMQPType) → type_named (drop 1 k) ≡ type → ((j : json.Json) (r : List Token) → p us ≡ Some (j, r) → option_and_then (λ t. value_as t j) type ≡ None) → converted object_meant (members_at depth (key k ∷ us)) ≡ None
  unfolding members
  no_named us type known none = by (p us) none
    where
      by : (o : Option (json.Json × List Token)) → ((j : json.Json) (r : List Token) → o ≡ Some (j, r) → option_and_then (λ t. value_as t j) type ≡ None)
          → converted object_meant (option_and_then (λ q. parse_map (json.member k q.0) (members p (length us) q.1)) o) ≡ None
      by None h = refl
      by (Some q) h = without type q.0 (members p (length us) q.1) known (h q.0 q.1 refl)

-- tokens that are values of no type

abbrev pick : json.Json → Option (json.Json × List Token) → json.Json
pick d None = d
pick d (Some a) = a.0

unread : (type : AMQPType) (t : Token) (depth : ℕ) (ts r : List Token) (j : json.Json) → value depth (t ∷ ts) ≡ None → value depth (t ∷ ts) ≡ Some (j, r) → value_as type j ≡ None
unread type t depth ts r j none e = absurd (cc (none, e))

mapped : (type : AMQPType) (A : Type 0) (f : A → json.Json) → ((a : A) → value_as type (f a) ≡ None) → (o : Option (A × List Token)) (j : json.Json) (r : List Token) → parse_map f o ≡ Some (j, r) → value_as type j ≡ None
mapped type A f none None j r e = absurd (cc)
mapped type A f none (Some q) j r e = ap (value_as type) (sym (ap (pick j) e)) ∙ none q.0

opened_array : (type : AMQPType) (depth : ℕ) (ts r : List Token) (j : json.Json) → value depth (spec.begin_array ∷ ts) ≡ Some (j, r) → value_as type j ≡ None
unfolding value
opened_array type zero ts r j e = absurd (cc)
opened_array type (suc d) ts r j e = mapped type json.Items json.array (λ ms. refl) (items (value d) (length ts) ts) j r e

opened_object : (type : AMQPType) (depth : ℕ) (ts r : List Token) (j : json.Json) → value depth (spec.begin_object ∷ ts) ≡ Some (j, r) → value_as type j ≡ None
unfolding value
opened_object type zero ts r j e = absurd (cc)
opened_object type (suc d) ts r j e = mapped type json.Members json.object (λ ms. refl) (members (value d) (length ts) ts) j r e

is_read : (t u : Token) (depth : ℕ) (ts r : List Token) (j i : json.Json) → t ≡ u → value depth (u ∷ ts) ≡ Some (i, ts) → value depth (t ∷ ts) ≡ Some (j, r) → i ≡ j
is_read t u depth ts r j i is at e = ap (pick j) (sym (ap (λ k. value depth (k ∷ ts)) is ∙ at) ∙ e)

pub number_leaf : (type : AMQPType) (t : Token) (x : List ℕ) (v : Tree) → t ≡ number x → number_as type x ≡ Some v → IsLeaf type t v
number_leaf type t x v is h = (json.number x, λ depth ts. ap (λ k. value depth (k ∷ ts)) is ∙ value_is depth (number x ∷ ts), h)

pub number_none : (type : AMQPType) (t : Token) (x : List ℕ) → t ≡ number x → number_as type x ≡ None → IsNoLeaf type t
number_none type t x is none depth ts r j e = ap (value_as type) (sym (is_read t (number x) depth ts r j (json.number x) is (value_is depth (number x ∷ ts)) e)) ∙ none

pub string_leaf : (type : AMQPType) (t : Token) (x : List ℕ) (v : Tree) → t ≡ string x → string_as type x ≡ Some v → IsLeaf type t v
string_leaf type t x v is h = (json.string x, λ depth ts. ap (λ k. value depth (k ∷ ts)) is ∙ value_is depth (string x ∷ ts), h)

pub string_none : (type : AMQPType) (t : Token) (x : List ℕ) → t ≡ string x → string_as type x ≡ None → IsNoLeaf type t
string_none type t x is none depth ts r j e = ap (value_as type) (sym (is_read t (string x) depth ts r j (json.string x) is (value_is depth (string x ∷ ts)) e)) ∙ none

pub no_leaf : (type : AMQPType) (t : KitToken) → ((x : Bor (List ℕ)) → t ≡ kit.Number x → ⊥) → ((x : Bor (List ℕ)) → t ≡ kit.String x → ⊥) → IsNoLeaf type (token_of t)
no_leaf type kit.BeginObject a b depth ts r j e = opened_object type depth ts r j e
no_leaf type kit.EndObject a b depth ts r j e = unread type spec.end_object depth ts r j (value_is depth (spec.end_object ∷ ts)) e
no_leaf type kit.BeginArray a b depth ts r j e = opened_array type depth ts r j e
no_leaf type kit.EndArray a b depth ts r j e = unread type spec.end_array depth ts r j (value_is depth (spec.end_array ∷ ts)) e
no_leaf type (kit.Key s) a b depth ts r j e = unread type (spec.key s.now) depth ts r j (value_is depth (spec.key s.now ∷ ts)) e
no_leaf type (kit.String s) a b depth ts r j e = absurd (b s refl)
no_leaf type (kit.Number s) a b depth ts r j e = absurd (a s refl)
no_leaf type (kit.Bool x) a b depth ts r j e = ap (value_as type) (sym (ap (pick j) (sym (value_is depth (spec.boolean x ∷ ts)) ∙ e)))
no_leaf type kit.Null a b depth ts r j e = ap (value_as type) (sym (ap (pick j) (sym (value_is depth (spec.null ∷ ts)) ∙ e)))
no_leaf type kit.Bad a b depth ts r j e = unread type spec.bad depth ts r j (value_is depth (spec.bad ∷ ts)) e

-- no value begins with such a token
pub closer : (depth : ℕ) (ts : List Token) (t : KitToken) → (t ≡ kit.EndArray) ⊎ ((t ≡ kit.EndObject) ⊎ (((x : Bor (List ℕ)) × (t ≡ kit.Key x)) ⊎ (t ≡ kit.Bad))) → value depth (token_of t ∷ ts) ≡ None
closer depth ts t (inl e) = ap (λ k. value depth (token_of k ∷ ts)) e ∙ value_is depth (spec.end_array ∷ ts)
closer depth ts t (inr (inl e)) = ap (λ k. value depth (token_of k ∷ ts)) e ∙ value_is depth (spec.end_object ∷ ts)
closer depth ts t (inr (inr (inl (x, e)))) = ap (λ k. value depth (token_of k ∷ ts)) e ∙ value_is depth (spec.key x.now ∷ ts)
closer depth ts t (inr (inr (inr e))) = ap (λ k. value depth (token_of k ∷ ts)) e ∙ value_is depth (spec.bad ∷ ts)
