-- Tables are finite maps: what `insert` changes of `value_at`, and that pairs mean (`Mean`) what
-- `insert_all` makes of them.
use Rattle.std.proofs.Common.{◌≡◌, ◌≢◌, ℕ, List, Bool, true, false, ◌||◌, Option, Some, None, is_some, if◌then◌else◌, refl, sym, ap, ◌∙◌, subst}
use Rattle.std.specs.Option.{option_or}
use Rattle.std.specs.Ordering.{nat_cmp, match_ordering, ordering_reverse, is_eq}
use Rattle.std.specs.Cmp.Lexicographic.{slice_cmp, bytes_decides, texts_ties}
use Rattle.std.specs.FinMap.{nat_cmp-IsAntisymmetric, slice_cmp-IsAntisymmetric}
use Rattle.std.specs.declared.cmp.Ordering.{Ordering}
use Rattle.std.specs.declared.cmp.Ordering.TheVariants.{Less, Equal, Greater}
use Rattle.std.proofs.lemmas.Cmp.{nat_list_cmp_total}
use Rattle.amqp_value_core.specs.Values.{Tree, Entries, no_entries, entry, ComesBefore}
use Rattle.amqp_value_core.specs.Maps.{insert, insert_all, same_bytes, has_key, value_at, last_at, IsRising, Mean}
use Rattle.amqp_value_core.specs.InMemory.{AreEntries}

-- ---- the order of keys

-- what comes before another comes not after it
greater : (j k : List ℕ) → slice_cmp nat_cmp j k ≡ Less → slice_cmp nat_cmp k j ≡ Greater
greater j k less = nat_list_cmp_total.antisymm k j ∙ ap ordering_reverse less

-- and the other way round
less : (j k : List ℕ) → slice_cmp nat_cmp k j ≡ Greater → slice_cmp nat_cmp j k ≡ Less
less j k greater = nat_list_cmp_total.antisymm j k ∙ ap ordering_reverse greater

-- keys that tie are equal
equal_keys : (j k : List ℕ) → slice_cmp nat_cmp j k ≡ Equal → j ≡ k
equal_keys j k tie = slice_cmp-IsAntisymmetric nat_cmp-IsAntisymmetric j k tie

-- the order determines whether keys are the same bytes
same_by_order : (j k : List ℕ) (o : Ordering) → slice_cmp nat_cmp j k ≡ o → same_bytes j k ≡ is_eq o
same_by_order j k o is = texts_ties j k ∙ ap is_eq is

same_itself : (k : List ℕ) → same_bytes k k ≡ true
same_itself k = (bytes_decides k k).1 refl

not_same : (j k : List ℕ) → j ≢ k → same_bytes j k ≡ false
not_same j k other = by (same_bytes j k) (bytes_decides j k).0
  where
    by : (b : Bool) → (b ≡ true → j ≡ k) → b ≡ false
    by true f = absurd (other (f refl))
    by false f = refl

-- ---- insertion

-- what holds of entries and of them with v at k, if it does wherever k goes: before the first key, at
-- an equal one, or after the first
pub by_place : (Q : Entries → Entries → Type 0) (k : List ℕ) (v : Tree)
    → ((es : Entries) → ComesBefore k es → Q es (entry k v es))
    → ((u : Tree) (es : Entries) → Q (entry k u es) (entry k v es))
    → ((j : List ℕ) (u : Tree) (es : Entries) → slice_cmp nat_cmp j k ≡ Less → Q es (insert k v es) → Q (entry j u es) (entry j u (insert k v es)))
    → (es : Entries) → Q es (insert k v es)
by_place Q k v before at after no_entries = before no_entries tt
by_place Q k v before at after (entry j u es) = by (slice_cmp nat_cmp k j) refl (by_place Q k v before at after es)
  where
    by : (o : Ordering) → slice_cmp nat_cmp k j ≡ o → Q es (insert k v es)
        → Q (entry j u es) (match_ordering o (entry k v (entry j u es)) (entry j v es) (entry j u (insert k v es)))
    by Less is inner = before (entry j u es) is
    by Equal is inner = subst (λ (i : List ℕ). Q (entry i u es) (entry i v es)) (equal_keys k j is) (at u es)
    by Greater is inner = after j u es (less j k is) inner

-- ---- sorted entries

-- the keys of a value's table are ascending
pub entries_rise : (es : Entries) → AreEntries es → IsRising es
entries_rise no_entries are = tt
entries_rise (entry k v es) are = (are.2, entries_rise es are.3)

-- entries, and others after them
join : Entries → Entries → Entries
join no_entries fs = fs
join (entry k v es) fs = entry k v (join es fs)

join-none : (es : Entries) → join es no_entries ≡ es
unfolding join
join-none no_entries = refl
join-none (entry k v es) = ap (entry k v) (join-none es)

join-entry : (es : Entries) (k : List ℕ) (v : Tree) (fs : Entries) → join (join es (entry k v no_entries)) fs ≡ join es (entry k v fs)
unfolding join
join-entry no_entries k v fs = refl
join-entry (entry j u es) k v fs = ap (entry j u) (join-entry es k v fs)

-- if keys are ascending, the first comes before a later one
comes_before : (es : Entries) (j k : List ℕ) (u v : Tree) (fs : Entries) → IsRising (entry j u (join es (entry k v fs))) → slice_cmp nat_cmp j k ≡ Less
unfolding join
comes_before no_entries j k u v fs rises = rises.0
comes_before (entry i w es) j k u v fs rises = nat_list_cmp_total.trans j i k rises.0 (comes_before es i k w v fs rises.1)

-- a key after all others is put at the end
put-last : (es : Entries) (k : List ℕ) (v : Tree) (fs : Entries) → IsRising (join es (entry k v fs)) → insert k v es ≡ join es (entry k v no_entries)
unfolding join
put-last no_entries k v fs rises = refl
put-last (entry j u es) k v fs rises =
    let after = greater j k (comes_before es j k u v fs rises) in
    ap (λ (o : Ordering). match_ordering o (entry k v (entry j u es)) (entry j v es) (entry j u (insert k v es))) after
    ∙ ap (entry j u) (put-last es k v fs rises.1)

-- sorted entries that are put after others are joined to them
onto-join : (fs es : Entries) → IsRising (join es fs) → insert_all es fs ≡ join es fs
onto-join no_entries es rises = sym (join-none es)
onto-join (entry k v fs) es rises =
    ap (λ (x : Entries). insert_all x fs) (put-last es k v fs rises)
    ∙ (onto-join fs (join es (entry k v no_entries)) (subst IsRising (sym (join-entry es k v fs)) rises) ∙ join-entry es k v fs)

-- sorted entries, put one after another, are those entries
pub rising_pairs : (es : Entries) → IsRising es → insert_all no_entries es ≡ es
unfolding join
rising_pairs es rises = onto-join es no_entries rises

-- what comes before a key and before the entries comes before them with the key
pub before-insert : (j k : List ℕ) (v : Tree) (es : Entries) → slice_cmp nat_cmp j k ≡ Less → ComesBefore j es → ComesBefore j (insert k v es)
before-insert j k v es first =
    by_place (λ es fs. ComesBefore j es → ComesBefore j fs) k v (λ es here before. first) (λ u es before. before) (λ i u es here inner before. before) es

-- keys are still ascending if one is inserted
rising-insert : (k : List ℕ) (v : Tree) (es : Entries) → IsRising es → IsRising (insert k v es)
rising-insert k v =
    by_place (λ es fs. IsRising es → IsRising fs) k v (λ es before rises. (before, rises)) (λ u es rises. rises)
    (λ j u es first inner rises. (before-insert j k v es first rises.0, inner rises.1))

-- so they do if pairs are inserted one after another
rising-onto : (ps es : Entries) → IsRising es → IsRising (insert_all es ps)
rising-onto no_entries es rises = rises
rising-onto (entry k v ps) es rises = rising-onto ps (insert k v es) (rising-insert k v es rises)

-- the keys of what pairs mean are ascending
pub pairs_rise : (ps : Entries) → IsRising (insert_all no_entries ps)
pairs_rise ps = rising-onto ps no_entries tt

-- ---- what holds of each entry

-- P holds of each key and its value
abbrev pub Each : (List ℕ → Tree → Type 0) → Entries → Type 0
Each P no_entries = Unit {0}
Each P (entry k v es) = P k v × Each P es

-- what holds of each entry, and of one that is inserted, holds of each then
pub each-insert : (P : List ℕ → Tree → Type 0) (k : List ℕ) (v : Tree) (es : Entries) → P k v → Each P es → Each P (insert k v es)
each-insert P k v es here =
    by_place (λ es fs. Each P es → Each P fs) k v (λ es before others. (here, others)) (λ u es others. (here, others.1)) (λ j u es first inner others. (others.0, inner others.1)) es

-- so does what holds of each pair
each-onto : (P : List ℕ → Tree → Type 0) (ps es : Entries) → Each P ps → Each P es → Each P (insert_all es ps)
each-onto P no_entries es pairs others = others
each-onto P (entry k v ps) es pairs others = each-onto P ps (insert k v es) pairs.1 (each-insert P k v es pairs.0 others)

-- ---- a finite map

-- the value at the first key is the first one
first_value : (k : List ℕ) (v : Tree) (es : Entries) → value_at k (entry k v es) ≡ Some v
first_value k v es = ap (λ (t : Bool). if t then Some v else value_at k es) (same_itself k)

-- at a key that is another than the first it is that of the others
other_value : (k j : List ℕ) (u : Tree) (es : Entries) → k ≢ j → value_at k (entry j u es) ≡ value_at k es
other_value k j u es other = ap (λ (t : Bool). if t then Some u else value_at k es) (not_same k j other)

-- a value is found at the key at which it was inserted
pub put_found : (k : List ℕ) (v : Tree) (es : Entries) → value_at k (insert k v es) ≡ Some v
put_found k v =
    by_place (λ es fs. value_at k fs ≡ Some v) k v (λ es before. first_value k v es) (λ u es. first_value k v es)
    (λ j u es first inner. ap (λ (t : Bool). if t then Some u else value_at k (insert k v es)) (same_by_order k j Greater (greater j k first)) ∙ inner)

-- and every other key keeps its value
pub put_other : (j k : List ℕ) (v : Tree) (es : Entries) → j ≢ k → value_at j (insert k v es) ≡ value_at j es
put_other j k v es other =
    by_place (λ es fs. value_at j fs ≡ value_at j es) k v (λ es before. other_value j k v es other)
    (λ u es. other_value j k v es other ∙ sym (other_value j k u es other)) (λ i u es first inner. ap (λ (x : Option Tree). if same_bytes j i then Some u else x) inner) es

-- there is a value if there is a key
pub key_has_value : (k : List ℕ) (es : Entries) → has_key k es ≡ is_some (value_at k es)
key_has_value k no_entries = refl
key_has_value k (entry j u es) = by (same_bytes k j) (key_has_value k es)
  where
    by : (t : Bool) → has_key k es ≡ is_some (value_at k es) → (t || has_key k es) ≡ is_some (if t then Some u else value_at k es)
    by true inner = refl
    by false inner = inner

-- the value at a key if one was inserted, by whether it is this key
put_or : (k j : List ℕ) (v : Tree) (es : Entries) → value_at k (insert j v es) ≡ option_or (if same_bytes k j then Some v else None) (value_at k es)
put_or k j v es = by (same_bytes k j) refl
  where
    by : (t : Bool) → same_bytes k j ≡ t → value_at k (insert j v es) ≡ option_or (if t then Some v else None) (value_at k es)
    by true is = ap (λ (i : List ℕ). value_at i (insert j v es)) ((bytes_decides k j).0 is) ∙ put_found j v es
    by false is = put_other k j v es (λ e. let same = (bytes_decides k j).1 e in cc)

-- the first of three that is there
pub option_or-assoc : (a b c : Option Tree) → option_or (option_or a b) c ≡ option_or a (option_or b c)
option_or-assoc None b c = refl
option_or-assoc (Some x) b c = refl

-- nothing after it changes nothing
pub option_or-none : (a : Option Tree) → option_or a None ≡ a
option_or-none None = refl
option_or-none (Some x) = refl

-- of pairs that are put one after another the last with the key decides
onto_or : (k : List ℕ) (ps es : Entries) → value_at k (insert_all es ps) ≡ option_or (last_at k ps) (value_at k es)
onto_or k no_entries es = refl
onto_or k (entry j v ps) es =
    onto_or k ps (insert j v es)
    ∙ (ap (option_or (last_at k ps)) (put_or k j v es)
    ∙ sym (option_or-assoc (last_at k ps) (if same_bytes k j then Some v else None) (value_at k es)))

-- of equal keys the last pair's value stays
pub last_stays : (k : List ℕ) (ps : Entries) → value_at k (insert_all no_entries ps) ≡ last_at k ps
last_stays k ps = onto_or k ps no_entries ∙ option_or-none (last_at k ps)

-- ---- equal tables

-- what comes before a key comes before what that comes before
before-trans : (j k : List ℕ) (es : Entries) → slice_cmp nat_cmp j k ≡ Less → ComesBefore k es → ComesBefore j es
before-trans j k no_entries first before = tt
before-trans j k (entry i u es) first before = nat_list_cmp_total.trans j k i first before

-- at a key that comes before all there is no value
none_before : (k : List ℕ) (es : Entries) → ComesBefore k es → IsRising es → value_at k es ≡ None
none_before k no_entries before rises = refl
none_before k (entry j u es) before rises =
    ap (λ (t : Bool). if t then Some u else value_at k es) (same_by_order k j Less before)
    ∙ none_before k es (before-trans k j es before rises.0) rises.1

-- with the same value at each key the others have it too
same_others : (k : List ℕ) (v u : Tree) (es fs : Entries) → IsRising (entry k v es) → IsRising (entry k u fs)
    → ((i : List ℕ) → value_at i (entry k v es) ≡ value_at i (entry k u fs)) → (i : List ℕ) → value_at i es ≡ value_at i fs
same_others k v u es fs r s same i = by (same_bytes i k) refl (same i)
  where
    by : (t : Bool) → same_bytes i k ≡ t → (if t then Some v else value_at i es) ≡ (if t then Some u else value_at i fs) → value_at i es ≡ value_at i fs
    by true is e =
        subst (λ (x : List ℕ). value_at x es ≡ value_at x fs) (sym ((bytes_decides i k).0 is)) (none_before k es r.0 r.1 ∙ sym (none_before k fs s.0 s.1))
    by false is e = e

-- with one first key they are equal if the others are
same_tables-at : (k j : List ℕ) (v u : Tree) (es fs : Entries) → k ≡ j → IsRising (entry k v es) → IsRising (entry j u fs)
    → ((i : List ℕ) → value_at i (entry k v es) ≡ value_at i (entry j u fs)) → (((i : List ℕ) → value_at i es ≡ value_at i fs) → es ≡ fs)
    → entry k v es ≡ entry j u fs
same_tables-at k j v u es fs one r s same inner =
    let same_k = subst (λ (x : List ℕ). (i : List ℕ) → value_at i (entry k v es) ≡ value_at i (entry x u fs)) (sym one) same in
    let rises = subst (λ (x : List ℕ). IsRising (entry x u fs)) (sym one) s in
    let values : Some v ≡ Some u = sym (first_value k v es) ∙ (same_k k ∙ first_value k u fs) in
    let first : v ≡ u = cc in
    let others : es ≡ fs = inner (same_others k v u es fs r rises same_k) in
    cc

-- sorted entries with the same value at each key are equal
pub same_tables : (es fs : Entries) → IsRising es → IsRising fs → ((k : List ℕ) → value_at k es ≡ value_at k fs) → es ≡ fs
same_tables no_entries no_entries r s same = refl
same_tables no_entries (entry j u fs) r s same = let e : None ≡ Some u = same j ∙ first_value j u fs in cc
same_tables (entry k v es) no_entries r s same = let e : Some v ≡ None = sym (first_value k v es) ∙ same k in cc
same_tables (entry k v es) (entry j u fs) r s same = by (slice_cmp nat_cmp k j) refl (same_tables es fs r.1 s.1)
  where
    by : (o : Ordering) → slice_cmp nat_cmp k j ≡ o → (((i : List ℕ) → value_at i es ≡ value_at i fs) → es ≡ fs) → entry k v es ≡ entry j u fs
    by Less is inner =
        let e : Some v ≡ None = sym (first_value k v es) ∙ (same k ∙ none_before k (entry j u fs) is s) in
        cc
    by Equal is inner = same_tables-at k j v u es fs (equal_keys k j is) r s same inner
    by Greater is inner =
        let e : None ≡ Some u = sym (none_before j (entry k v es) (less j k is) r) ∙ (same j ∙ first_value j u fs) in
        cc

-- ---- what pairs mean

-- what they make if they are put one after another
pub put_mean : (ps : Entries) → Mean ps (insert_all no_entries ps)
put_mean ps = record { rising = pairs_rise ps; last = λ k. last_stays k ps }

-- and nothing else
pub mean_put : (ps es : Entries) → Mean ps es → es ≡ insert_all no_entries ps
mean_put ps es mean = same_tables es (insert_all no_entries ps) mean.rising (pairs_rise ps) (λ k. mean.last k ∙ sym (last_stays k ps))

-- sorted pairs mean themselves
pub rising_mean : (es : Entries) → IsRising es → Mean es es
rising_mean es rises = subst (Mean es) (rising_pairs es rises) (put_mean es)

-- what holds of what they make holds of what they mean
pub of_mean : (P : Entries → Type 0) (ps es : Entries) → Mean ps es → P (insert_all no_entries ps) → P es
of_mean P ps es mean p = subst P (sym (mean_put ps es mean)) p

-- so does what holds of each pair
pub each-mean : (P : List ℕ → Tree → Type 0) (ps es : Entries) → Mean ps es → Each P ps → Each P es
each-mean P ps es mean pairs = of_mean (Each P) ps es mean (each-onto P ps no_entries pairs tt)

-- equal pairs mean equal entries
pub one_mean : (ps qs es fs : Entries) → ps ≡ qs → Mean ps es → Mean qs fs → es ≡ fs
one_mean ps qs es fs same p q = mean_put ps es p ∙ (ap (insert_all no_entries) same ∙ sym (mean_put qs fs q))
