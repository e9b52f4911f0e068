-- Equality: each turn of a loop compares the first of what is left of both sides, and where one
-- side has ended, what is left is equal exactly if both have.
use Rattle.std.proofs.Common.{btree_map_len, ◌≡◌, ◌⊎◌, inl, inr, ℕ, ◌+◌, ◌-◌, min, nat_eq, Bool, true, false, not, ◌&&◌, List, [], ◌∷◌, length, drop, sym, ap, ◌∙◌, arith, length-drop, rules}
use Rattle.std.proofs.lemmas.Bool.Decides.{nat_tests}
use Rattle.std.proofs.lemmas.Slice.Zip.{zip_end}
use Rattle.amqp_value_core.specs.declared.types.field_table.FieldTable.{FieldTable}
use Rattle.amqp_value_core.specs.declared.value.AMQPValue.{AMQPValue, the_lemmas}
use Rattle.amqp_value_core.specs.declared.value.AMQPValue.TheVariants as value
use Rattle.amqp_value_core.specs.Values.{table}
use Rattle.amqp_value_core.specs.Maps.{same_bytes}
use Rattle.amqp_value_core.specs.View.{view}
use Rattle.amqp_value_core.specs.Containers.{trees, entries, table_entries, table_view}
use Rattle.amqp_value_core.specs.Equality.{same_tree, same_trees, same_entries}
use Rattle.amqp_value_core.proofs.equality.+same.Goals as goal
use Rattle.amqp_value_core.proofs.equality.+same.Goals.{same_pairs-then-ne-via-then-ne, same_pairs-then-ne-via-else-ne+then-not-same}

abbrev Pairs : Type 0
Pairs = List (List ℕ × AMQPValue)

-- if the shorter of two lists ended, what is left is the same exactly when both ended
ends : (m n : ℕ) (a b : List AMQPValue) → length a ≡ m - min m n → length b ≡ n - min m n → nat_eq m n ≡ same_trees (trees a) (trees b)
ends m n [] [] p q = let e : m ≡ n = omega arith in grind (arith, nat_tests)
ends m n [] (y ∷ b) p q = grind (arith, nat_tests)
ends m n (x ∷ a) [] p q = grind (arith, nat_tests)
ends m n (x ∷ a) (y ∷ b) p q = absurd (omega arith)

pub same_items-returns : goal.same_items-returns
same_items-returns t c =
    let a = c.args.a.now in
    let b = c.args.b.now in
    let k = length c.loop-x.yielded in
    let n = zip_end a b c.loop-x.yielded c.into_iter-x-iterator.result c.loop-x.x-iterator c.next.new.self c.next.result (search rules) (search rules) c.loop-x.yielded_by c.in-None.is c.next.ensures.steps in
    ends (length a) (length b) (drop k a) (drop k b) (length-drop k a ∙ ap (λ i. length a - i) n) (length-drop k b ∙ ap (λ i. length b - i) n) ∙ c.loop-x.invariant

view-FieldTable : (t : FieldTable) → view (value.FieldTable t) ≡ table (table_view t)
view-FieldTable t = search (rules, the_lemmas)

-- two tables are the same values if their entries are
of_tables : (r : Bool) (x y : AMQPValue) (a b : FieldTable) (es fs : Pairs) → x ≡ value.FieldTable a → y ≡ value.FieldTable b → es ≡ table_entries a → fs ≡ table_entries b → r ≡ same_entries (entries es) (entries fs) → r ≡ same_tree (view x) (view y)
of_tables r x y a b es fs p q d e h = rw (p, q, view-FieldTable a, view-FieldTable b, ← d, ← e) h

pub same-returns-in-FieldTable-FieldTable : goal.same-returns-in-FieldTable-FieldTable
same-returns-in-FieldTable-FieldTable t c =
    let arm = c.in-FieldTable-FieldTable in
    of_tables _ _ _ arm.a arm.b _ _ arm.is-0 arm.is-1 c.inner.ensures c.inner-in-FieldTable-FieldTable.ensures c.same_pairs.ensures

-- one turn: what is left decides as the entries here and what is left after them do
turn : (k j : List ℕ) (v u : AMQPValue) (es fs xs ys : Pairs) (b : Bool) → xs ≡ (k, v) ∷ es → ys ≡ (j, u) ∷ fs → same_entries (entries xs) (entries ys) ≡ b → same_bytes k j && (same_tree (view v) (view u) && same_entries (entries es) (entries fs)) ≡ b
turn k j v u es fs xs ys b p q h = sym (ap (λ (zs : Pairs). same_entries (entries zs) (entries ys)) p ∙ ap (λ (zs : Pairs). same_entries (entries ((k, v) ∷ es)) (entries zs)) q) ∙ h

-- one turn takes an entry of each
fewer : (e f : List ℕ × AMQPValue) (es fs xs ys : Pairs) (m n : ℕ) → xs ≡ e ∷ es → ys ≡ f ∷ fs → length xs + n ≡ length ys + m → length es + n ≡ length fs + m
fewer e f es fs xs ys m n p q h = omega (arith, ap length p, ap length q)

-- if one map has no entry left, the maps are the same exactly when neither has
left : (m n : ℕ) (xs ys : Pairs) (b : Bool) → (xs ≡ []) ⊎ (ys ≡ []) → length xs + n ≡ length ys + m → same_entries (entries xs) (entries ys) ≡ b → nat_eq m n ≡ b
left m n [] [] b d e h = let is : m ≡ n = omega arith in grind (arith, nat_tests)
left m n [] (y ∷ ys) b d e h = grind (arith, nat_tests)
left m n (x ∷ xs) [] b d e h = grind (arith, nat_tests)
left m n (x ∷ xs) (y ∷ ys) b (inl e) f h = cc
left m n (x ∷ xs) (y ∷ ys) b (inr e) f h = cc

-- the iteration over two maps ends if one has no entry left
one_ended : (xs ys : Pairs) → ((zs : Pairs) × ((xs ≡ []) × (zs ≡ []))) ⊎ ((zs : Pairs) × ((ys ≡ []) × (zs ≡ []))) → (xs ≡ []) ⊎ (ys ≡ [])
one_ended xs ys (inl w) = inl w.1.0
one_ended xs ys (inr w) = inr w.1.0

-- other keys
other_keys : (k r q n : Bool) → n ≡ not k → n ≡ true → k && r ≡ q → false ≡ q
other_keys true r q n d e h = cc
other_keys false r q n d e h = h

-- other values
other_values : (k s r q : Bool) → s ≡ false → k && (s && r) ≡ q → false ≡ q
other_values true true r q e h = cc
other_values true false r q e h = h
other_values false s r q e h = h

-- the same key and the same value
same_here : (k s r q n : Bool) → n ≡ not k → n ≡ false → s ≡ true → k && (s && r) ≡ q → r ≡ q
same_here true true r q n d e f h = h
same_here true false r q n d e f h = cc
same_here false s r q n d e f h = cc

pub same_pairs-returns-then-ne : goal.same_pairs-returns-then-ne
same_pairs-returns-then-ne t c =
    let e = turn _ _ _ _ _ _ _ _ _ c.in-Some.ensures.steps.0 c.in-Some.ensures.steps.1 c.loop-j.invariant.decides in
    elim c.then-ne.branch [ same_pairs-then-ne-via-then-ne w ↦ other_keys _ _ _ _ c.ne.ensures w.if-ne.true e | same_pairs-then-ne-via-else-ne+then-not-same w ↦ other_values _ _ _ _ (sym w.same.ensures ∙ w.if-not-same.true) e ]

pub same_pairs-loop-j-preserved : goal.same_pairs-loop-j-preserved
same_pairs-loop-j-preserved t c =
    let first = c.in-Some.ensures.steps.0 in
    let second = c.in-Some.ensures.steps.1 in
    let e = turn _ _ _ _ _ _ _ _ _ first second c.loop-j.invariant.decides in
    record {
      decides = same_here _ _ _ _ _ c.ne.ensures c.if-ne.false (sym c.same.ensures ∙ c.if-not-same.false) e;
      as_many = fewer _ _ _ _ _ _ _ _ first second c.loop-j.invariant.as_many;
    }

pub same_pairs-returns : goal.same_pairs-returns
same_pairs-returns t c =
    let done = one_ended _ _ c.in-None.ensures.steps in
    let a = c.len.ensures.len in
    let b = c.len-2.ensures.len in
    let e = left (btree_map_len c.args.m.now) (btree_map_len c.args.n.now) _ _ _ done c.loop-j.invariant.as_many c.loop-j.invariant.decides in
    rw (a, b) e
