-- `same_tree` (*Equality*) is true exactly of equal trees, so `==` has the laws of `PartialEq`.
use Rattle.std.proofs.Common.{◌≡◌, ℕ, List, Bool, true, false, ◌==◌, ◌∷◌, [], get_or, refl, sym, ap, ◌∙◌, Decides}
use Rattle.std.specs.Cmp.{IsPartialEquivalence, decided, on_per, partial_equiv_from_equiv, unsigned_Decides}
use Rattle.std.specs.Cmp.Lexicographic.{bytes_decides}
use Rattle.std.proofs.lemmas.Bool.Decides.{Decides-and, Decides-like}
use Rattle.amqp_value_core.specs.declared.types.amqp_type.AMQPType.{AMQPType}
use Rattle.amqp_value_core.specs.declared.types.amqp_type.AMQPType.TheVariants as amqp
use Rattle.amqp_value_core.specs.Values.{Scalar, boolean, number, decimal, void, Tree, scalar, short, long, octets, array, table, Trees, no_trees, tree, Entries, no_entries, entry}
use Rattle.amqp_value_core.specs.Equality.{place_of, same_truth, same_scalar, same_tree, same_trees, same_entries}
use Rattle.amqp_value_core.specs.Maps.{same_bytes}

-- the type at a place
type_at : ℕ → AMQPType
type_at n = get_or (amqp.Boolean ∷ amqp.ShortShortInt ∷ amqp.ShortShortUInt ∷ amqp.ShortInt ∷ amqp.ShortUInt ∷ amqp.LongInt ∷ amqp.LongUInt ∷ amqp.LongLongInt ∷ amqp.LongLongUInt ∷ amqp.Float ∷ amqp.Double ∷ amqp.DecimalValue ∷ amqp.ShortString ∷ amqp.LongString ∷ amqp.FieldArray ∷ amqp.Timestamp ∷ amqp.FieldTable ∷ amqp.ByteArray ∷ []) n amqp.Void

type_at-place_of : (t : AMQPType) → type_at (place_of t) ≡ t
unfolding type_at
type_at-place_of amqp.Boolean = refl
type_at-place_of amqp.ShortShortInt = refl
type_at-place_of amqp.ShortShortUInt = refl
type_at-place_of amqp.ShortInt = refl
type_at-place_of amqp.ShortUInt = refl
type_at-place_of amqp.LongInt = refl
type_at-place_of amqp.LongUInt = refl
type_at-place_of amqp.LongLongInt = refl
type_at-place_of amqp.LongLongUInt = refl
type_at-place_of amqp.Float = refl
type_at-place_of amqp.Double = refl
type_at-place_of amqp.DecimalValue = refl
type_at-place_of amqp.ShortString = refl
type_at-place_of amqp.LongString = refl
type_at-place_of amqp.FieldArray = refl
type_at-place_of amqp.Timestamp = refl
type_at-place_of amqp.FieldTable = refl
type_at-place_of amqp.ByteArray = refl
type_at-place_of amqp.Void = refl

types_decide : (t u : AMQPType) → Decides (place_of t == place_of u) (t ≡ u)
types_decide t u = Decides-like _ (λ e. sym (type_at-place_of t) ∙ ap type_at e ∙ type_at-place_of u) (λ e. ap place_of e) (unsigned_Decides (place_of t) (place_of u))

truths_decide : (a b : Bool) → Decides (same_truth a b) (a ≡ b)
truths_decide true true = (λ _. refl, λ _. refl)
truths_decide true false = (λ e. cc, λ e. cc)
truths_decide false true = (λ e. cc, λ e. cc)
truths_decide false false = (λ _. refl, λ _. refl)

bytes_decide : (s t : List ℕ) → Decides (same_bytes s t) (s ≡ t)
bytes_decide s t = bytes_decides s t

scalars_decide : (x y : Scalar) → Decides (same_scalar x y) (x ≡ y)
scalars_decide (boolean a) (boolean b) = Decides-like _ (λ e. ap boolean e) (λ e. cc) (truths_decide a b)
scalars_decide (number t m) (number u n) = Decides-like _ (λ e. ap (λ k. number k m) e.0 ∙ ap (number u) e.1) (λ e. let p : t ≡ u = cc in let q : m ≡ n = cc in (p, q)) (Decides-and _ _ (types_decide t u) (unsigned_Decides m n))
scalars_decide (decimal a m) (decimal b n) = Decides-like _ (λ e. ap (λ k. decimal k m) e.0 ∙ ap (decimal b) e.1) (λ e. let p : a ≡ b = cc in let q : m ≡ n = cc in (p, q)) (Decides-and _ _ (unsigned_Decides a b) (unsigned_Decides m n))
scalars_decide void void = (λ _. refl, λ _. refl)
scalars_decide (boolean a) (number u n) = (λ e. cc, λ e. cc)
scalars_decide (boolean a) (decimal b n) = (λ e. cc, λ e. cc)
scalars_decide (boolean a) void = (λ e. cc, λ e. cc)
scalars_decide (number t m) (boolean b) = (λ e. cc, λ e. cc)
scalars_decide (number t m) (decimal b n) = (λ e. cc, λ e. cc)
scalars_decide (number t m) void = (λ e. cc, λ e. cc)
scalars_decide (decimal a m) (boolean b) = (λ e. cc, λ e. cc)
scalars_decide (decimal a m) (number u n) = (λ e. cc, λ e. cc)
scalars_decide (decimal a m) void = (λ e. cc, λ e. cc)
scalars_decide void (boolean b) = (λ e. cc, λ e. cc)
scalars_decide void (number u n) = (λ e. cc, λ e. cc)
scalars_decide void (decimal b n) = (λ e. cc, λ e. cc)

mutual
  -- equal trees are what the test holds of
  pub tree_decides : (v u : Tree) → Decides (same_tree v u) (v ≡ u)
  tree_decides (scalar x) (scalar y) = Decides-like _ (λ e. ap scalar e) (λ e. cc) (scalars_decide x y)
  tree_decides (short s) (short t) = Decides-like _ (λ e. ap short e) (λ e. cc) (bytes_decide s t)
  tree_decides (long s) (long t) = Decides-like _ (λ e. ap long e) (λ e. cc) (bytes_decide s t)
  tree_decides (octets s) (octets t) = Decides-like _ (λ e. ap octets e) (λ e. cc) (bytes_decide s t)
  tree_decides (array vs) (array us) = Decides-like _ (λ e. ap array e) (λ e. cc) (trees_decide vs us)
  tree_decides (table es) (table fs) = Decides-like _ (λ e. ap table e) (λ e. cc) (entries_decide es fs)
  tree_decides (scalar x) (short t) = (λ e. cc, λ e. cc)
  tree_decides (scalar x) (long t) = (λ e. cc, λ e. cc)
  tree_decides (scalar x) (octets t) = (λ e. cc, λ e. cc)
  tree_decides (scalar x) (array us) = (λ e. cc, λ e. cc)
  tree_decides (scalar x) (table fs) = (λ e. cc, λ e. cc)
  tree_decides (short s) (scalar y) = (λ e. cc, λ e. cc)
  tree_decides (short s) (long t) = (λ e. cc, λ e. cc)
  tree_decides (short s) (octets t) = (λ e. cc, λ e. cc)
  tree_decides (short s) (array us) = (λ e. cc, λ e. cc)
  tree_decides (short s) (table fs) = (λ e. cc, λ e. cc)
  tree_decides (long s) (scalar y) = (λ e. cc, λ e. cc)
  tree_decides (long s) (short t) = (λ e. cc, λ e. cc)
  tree_decides (long s) (octets t) = (λ e. cc, λ e. cc)
  tree_decides (long s) (array us) = (λ e. cc, λ e. cc)
  tree_decides (long s) (table fs) = (λ e. cc, λ e. cc)
  tree_decides (octets s) (scalar y) = (λ e. cc, λ e. cc)
  tree_decides (octets s) (short t) = (λ e. cc, λ e. cc)
  tree_decides (octets s) (long t) = (λ e. cc, λ e. cc)
  tree_decides (octets s) (array us) = (λ e. cc, λ e. cc)
  tree_decides (octets s) (table fs) = (λ e. cc, λ e. cc)
  tree_decides (array vs) (scalar y) = (λ e. cc, λ e. cc)
  tree_decides (array vs) (short t) = (λ e. cc, λ e. cc)
  tree_decides (array vs) (long t) = (λ e. cc, λ e. cc)
  tree_decides (array vs) (octets t) = (λ e. cc, λ e. cc)
  tree_decides (array vs) (table fs) = (λ e. cc, λ e. cc)
  tree_decides (table es) (scalar y) = (λ e. cc, λ e. cc)
  tree_decides (table es) (short t) = (λ e. cc, λ e. cc)
  tree_decides (table es) (long t) = (λ e. cc, λ e. cc)
  tree_decides (table es) (octets t) = (λ e. cc, λ e. cc)
  tree_decides (table es) (array us) = (λ e. cc, λ e. cc)

  pub trees_decide : (vs us : Trees) → Decides (same_trees vs us) (vs ≡ us)
  trees_decide no_trees no_trees = (λ _. refl, λ _. refl)
  trees_decide (tree v vs) (tree u us) = Decides-like _ (λ e. ap (λ k. tree k vs) e.0 ∙ ap (tree u) e.1) (λ e. let p : v ≡ u = cc in let q : vs ≡ us = cc in (p, q)) (Decides-and _ _ (tree_decides v u) (trees_decide vs us))
  trees_decide no_trees (tree u us) = (λ e. cc, λ e. cc)
  trees_decide (tree v vs) no_trees = (λ e. cc, λ e. cc)

  pub entries_decide : (es fs : Entries) → Decides (same_entries es fs) (es ≡ fs)
  entries_decide no_entries no_entries = (λ _. refl, λ _. refl)
  entries_decide (entry k v es) (entry j u fs) = Decides-like _ (λ e. ap (λ i. entry i v es) e.0 ∙ (ap (λ w. entry j w es) e.1.0 ∙ ap (entry j u) e.1.1)) (λ e. let p : k ≡ j = cc in let q : v ≡ u = cc in let r : es ≡ fs = cc in (p, (q, r))) (Decides-and _ _ (bytes_decide k j) (Decides-and _ _ (tree_decides v u) (entries_decide es fs)))
  entries_decide no_entries (entry j u fs) = (λ e. cc, λ e. cc)
  entries_decide (entry k v es) no_entries = (λ e. cc, λ e. cc)

-- a test of trees is a partial equivalence of what has trees
pub same_tree_laws : {X : Type 0} (f : X → Tree) → IsPartialEquivalence (λ a b. same_tree (f a) (f b))
same_tree_laws f = on_per f (partial_equiv_from_equiv (decided same_tree tree_decides))

pub same_trees_laws : {X : Type 0} (f : X → Trees) → IsPartialEquivalence (λ a b. same_trees (f a) (f b))
same_trees_laws f = on_per f (partial_equiv_from_equiv (decided same_trees trees_decide))

pub same_entries_laws : {X : Type 0} (f : X → Entries) → IsPartialEquivalence (λ a b. same_entries (f a) (f b))
same_entries_laws f = on_per f (partial_equiv_from_equiv (decided same_entries entries_decide))
