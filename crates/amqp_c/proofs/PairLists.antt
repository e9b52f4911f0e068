-- Lemmas for src/laws.rt: a look-up finds what `last_of_pairs`, `first_of_pairs` or an index finds
-- in a list of the pairs or values.
use Rattle.std.proofs.Common.{◌≡◌, ◌↔◌, Bool, true, false, cond, ℕ, List, [], ◌++◌, take, drop, length, Option, Some, None, Result, zero, suc, refl, sym, ap, subst}
use Rattle.std.specs.Option.{option_or}
use Rattle.std.specs.Cmp.Lexicographic.{bytes_decides}
use Rattle.amqp_value_core.specs.Grammar.{short_field}
use Rattle.amqp_value_core.specs.Maps.{same_bytes}
use Rattle.amq_protocol_types.specs.parsing.Headers.{extent}
use Rattle.amqp_in_place.proofs.Lookups.{or_none}
use Rattle.amqp_in_place.proofs.Searches.{at_key, named, passed}
use Rattle.amqp_in_place.specs.Searches.{HasPair, none_left, first_here, one_more, HasNth, too_few, here, later}
use Rattle.std.specs.Prelude.{slice_get}
use Rattle.amqp_c.specs.declared.cursor.Cursor.{Cursor}
use Rattle.amqp_c.specs.declared.entry.Entry.{Entry}
use Rattle.amqp_c.specs.declared.fault.Fault.{Fault}
use Rattle.amqp_c.specs.Entries.{array_tag, table_tag, part}
use Rattle.amqp_c.specs.LookUps.{IsOf, GivesBytes, LooksUp, LooksUpNth, ArePairEncodings, no_pair_encodings, pair_encoding, last_of_pairs, first_of_pairs, HasLast, HasFirst, never, at_once, after_another, AreEncodings, no_encodings, encoding}

-- ---- the last of equal keys

last_listed : (key s : List ℕ) (w : Option (List ℕ)) → HasPair false key s w → HasLast key s w
last_listed key _ _ none_left = ([], no_pair_encodings, refl)
last_listed key _ _ (first_here value is whole) = absurd cc
last_listed key _ _ (one_more k value w other whole rest) =
    let (ps, all, is) = last_listed key (drop (extent value) value) w rest in
    (_, pair_encoding k value ps whole all, ap (λ (o : Option (List ℕ)). option_or o (at_key key k value)) is)

last_looked_up : (key s : List ℕ) (ps : List (List ℕ × List ℕ)) → ArePairEncodings s ps → HasPair false key s (last_of_pairs key ps)
last_looked_up key _ _ no_pair_encodings = none_left
last_looked_up key _ _ (pair_encoding k value ps whole all) =
    one_more k value (last_of_pairs key ps) (λ e. absurd cc) whole (last_looked_up key (drop (extent value) value) ps all)

pub last_pair : (key s : List ℕ) (w : Option (List ℕ)) → HasPair false key s w ↔ HasLast key s w
last_pair key s w = (last_listed key s w, λ (ps, all, is). subst (HasPair false key s) (sym is) (last_looked_up key s ps all))

-- ---- the first

first_listed : (key s : List ℕ) (ps : List (List ℕ × List ℕ)) → ArePairEncodings s ps → HasPair true key s (first_of_pairs key ps)
first_listed key _ _ no_pair_encodings = none_left
first_listed key _ _ (pair_encoding k value ps whole all) = by (same_bytes key k) refl (first_listed key (drop (extent value) value) ps all)
  where
    by : (b : Bool) → same_bytes key k ≡ b → HasPair true key (drop (extent value) value) (first_of_pairs key ps) → HasPair true key (short_field k ++ value) (cond b (Some (take (extent value) value)) (first_of_pairs key ps))
    by true so rest = named key k value so whole
    by false so rest = passed key k value (first_of_pairs key ps) so whole rest

first_named : (key s : List ℕ) (w : Option (List ℕ)) → HasPair true key s w → HasFirst key s w
first_named key _ _ none_left = never
first_named key _ _ (first_here value is whole) = at_once value whole
first_named key _ _ (one_more k value w other whole rest) = by (same_bytes key k) refl (first_named key (drop (extent value) value) w rest)
  where
    by : (b : Bool) → same_bytes key k ≡ b → HasFirst key (drop (extent value) value) w → HasFirst key (short_field k ++ value) (option_or w (cond b (Some (take (extent value) value)) None))
    by true so others = absurd (other refl (sym ((bytes_decides key k).0 so)))
    by false so others = subst (HasFirst key (short_field k ++ value)) (sym (or_none w)) (after_another k value w (other refl) whole others)

first_looked_up : (key s : List ℕ) (w : Option (List ℕ)) → HasFirst key s w → HasPair true key s w
first_looked_up key _ _ never = none_left
first_looked_up key _ _ (at_once value whole) = first_here value refl whole
first_looked_up key _ _ (after_another k value w other whole rest) = by (same_bytes key k) refl (first_looked_up key (drop (extent value) value) w rest)
  where
    by : (b : Bool) → same_bytes key k ≡ b → HasPair true key (drop (extent value) value) w → HasPair true key (short_field k ++ value) w
    by true so others = absurd (other (sym ((bytes_decides key k).0 so)))
    by false so others = passed key k value w so whole others

pub first_pair : (key s : List ℕ) (w : Option (List ℕ)) → HasPair true key s w ↔ HasFirst key s w
first_pair key s w = (first_named key s w, first_looked_up key s w)

-- ---- by an index

nth_looked_up : (n : ℕ) (s : List ℕ) (ws : List (List ℕ)) → AreEncodings s ws → HasNth n s (slice_get ws n)
nth_looked_up n _ _ no_encodings = too_few n
nth_looked_up zero _ _ (encoding s ws whole all) = here s whole
nth_looked_up (suc n) _ _ (encoding s ws whole all) = later n s (slice_get ws n) whole (nth_looked_up n (drop (extent s) s) ws all)

-- ---- what a look-up finds

module _ (s : List ℕ) (c : Cursor) (done : Result (Option Entry) Fault) where
  pub last_found : (key : List ℕ) (ps : List (List ℕ × List ℕ)) → LooksUp false s c key done → IsOf table_tag (length s) c → ArePairEncodings (part s c.left) ps → GivesBytes s (last_of_pairs key ps) done
  last_found key ps looks of all = looks.finds.at (last_of_pairs key ps) of (last_looked_up key (part s c.left) ps all)

  pub first_found : (key : List ℕ) (ps : List (List ℕ × List ℕ)) → LooksUp true s c key done → IsOf table_tag (length s) c → ArePairEncodings (part s c.left) ps → GivesBytes s (first_of_pairs key ps) done
  first_found key ps looks of all = looks.finds.at (first_of_pairs key ps) of (first_listed key (part s c.left) ps all)

  pub nth_found : (n : ℕ) (ws : List (List ℕ)) → LooksUpNth s c n done → IsOf array_tag (length s) c → AreEncodings (part s c.left) ws → GivesBytes s (slice_get ws n) done
  nth_found n ws looks of all = looks.finds.at (slice_get ws n) of (nth_looked_up n (part s c.left) ws all)
