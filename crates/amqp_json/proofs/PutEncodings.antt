-- `PutsEncodingOf`, value by value and pair by pair: `ItemsLeft` and `PairsLeft` are what the loops
-- of `src/reading/walk.rt` keep.
use Rattle.std.proofs.Common.{◌≡◌, ℕ, suc, Bor, ◌-◌, ◌+◌, ◌<◌, ◌≤◌, ◌^◌, List, [], ◌∷◌, ◌++◌, length, take, drop, Option, Some, None, option_map, refl, sym, ap, ◌∙◌, subst, arith, append_assoc, append-nil, length-append}
use Rattle.std.specs.Int.{w32, to_be_bytes, w64, from_be_bytes}
use Rattle.std.proofs.Math.Seq.{take-append_seam, drop-append-add}
use Rattle.json.specs.Token.{Token, key, end_array, end_object}
use Rattle.json.specs.Tree.{json_tokens}
use Rattle.json.specs.Json as json
use Rattle.json.specs.Json.{Json, parse_map, after_end_array, read_key, items, members}
use Rattle.json.proofs.Grammar.{items_fail, members_fail, members_no_key}
use Rattle.amqp_value_core.specs.Values.{Tree, scalar, long, octets, array, Trees, no_trees, tree, Entries, no_entries, entry}
use Rattle.amqp_value_core.specs.Maps.{insert_all}
use Rattle.amqp_value_core.specs.Grammar.{Wire, wire, raw_array, raw_table, raw_long, raw_octets, ArrayBody, no_values, value, TableBody, no_pairs, pair, short_field, long_field, raw_fixed}
use Rattle.amqp_value_core.specs.Bytes.{IsShort}
use Rattle.amqp_value_core.specs.Texts.{text}
use Rattle.amqp_value_core.proofs.GrammarLaws.{put_mean, text_is_wire}
use Rattle.amqp_json.specs.declared.error.JsonError.{JsonError}
use Rattle.amqp_json.specs.Meaning.{entry_key, with_entry, meaning, meanings, pairs_of, table_of, number_as}
use Rattle.amqp_json.specs.reading.Puts.{IsSyntax, OnMismatch, IsRead, IsRefusal, PutsEncodingOf, PutsValues, PutsPairs, PutsScalar, items_at, members_at, next_token, converted, PutsInteger}
use Rattle.amqp_json.proofs.ObjectKeys.{no_entry}
use Rattle.amqp_json.specs.Nesting.{fits}
use Rattle.amqp_json.proofs.Levels.{json_fits, not_end, some_token, no_end, no_key}
use Rattle.amqp_json.proofs.Refusals.{refusal_of, refusal_by, refusal_on, wrong_after, wrong_on, deep_on}
use Rattle.amqp_json.proofs.MeantContainers.{spelled_as, read_again, map_twice, map_same, item_read, no_item_after, item_refused, items_over, member_read, no_member_after, member_refused, members_over, next_is, none_is}
use Rattle.amqp_value_core.specs.declared.types.amqp_type.AMQPType.{AMQPType}
use Rattle.amqp_value_core.specs.declared.types.amqp_type.AMQPType.TheVariants as amqp
use Rattle.amqp_value_core.specs.Layouts.{whole_number}
use Rattle.amqp_value_core.specs.Values as values

-- ---- an array

-- the values of the tokens before `now` are put, and with those that are left they are the array's, at each depth from
-- `depth` on. So they are if other tokens are left
pub record ItemsLeft (depth : ℕ) (first now : List Token) (old new : List ℕ) : Type 0 where
  pub passed : List Token
  pub split : first ≡ passed ++ now
  pub room : (us : List Token) → fits depth (passed ++ us) ≡ fits depth us
  pub turns : ℕ
  pub few : turns ≤ length passed
  pub body : List ℕ
  pub put : new ≡ old ++ body
  pub ahead : Trees → Trees
  pub rest : (tail : List ℕ) (vs : Trees) → ArrayBody tail vs → ArrayBody (body ++ tail) (ahead vs)
  pub read : (d n : ℕ) (us : List Token) → depth ≤ d → length passed + length us ≤ n → converted meanings (items (json.value d) n (passed ++ us)) ≡ parse_map ahead (converted meanings (items (json.value d) (n - turns) us))
  pub none : (d n : ℕ) (us : List Token) → depth ≤ d → length passed + length us ≤ n → items (json.value d) (n - turns) us ≡ None → items (json.value d) n (passed ++ us) ≡ None

module _ (depth : ℕ) (first : List Token) (old : List ℕ) where
  pub items_first : ItemsLeft depth first first old old
  items_first = record {
    passed = [];
    split = refl;
    room = λ us. refl;
    turns = 0;
    few = omega arith;
    body = [];
    put = sym (append-nil old);
    ahead = λ vs. vs;
    rest = λ tail vs all. all;
    read = λ d n us le enough. let all : n ≡ n - 0 = omega arith in ap (λ m. converted meanings (items (json.value d) m us)) all ∙ map_same _;
    none = λ d n us le enough h. let all : n ≡ n - 0 = omega arith in ap (λ m. items (json.value d) m us) all ∙ h;
  }

  pub items_next : (now r : List Token) (mid new : List ℕ) → ItemsLeft depth first now old mid → after_end_array now ≡ None
      → PutsEncodingOf (λ v. IsRead depth meaning (λ d. json.value d now) v r) mid new → ItemsLeft depth first r old new
  items_next now r mid new l going (w, v, same, is, read) =
      let (j, spelled, means, shallow) = spelled_as depth now r v (read depth (omega arith)) in
      let token : 0 < length (json_tokens j) = some_token j in
      let size = length-append l.passed (json_tokens j) in
      let again : (d : ℕ) (us : List Token) → depth ≤ d → converted meaning (json.value d (json_tokens j ++ us)) ≡ Some (v, us) = λ d us le. read_again d j us v (omega (arith, shallow, le)) means in
      record {
        passed = l.passed ++ json_tokens j;
        split = l.split ∙ ap (λ ts. l.passed ++ ts) spelled ∙ sym (append_assoc l.passed (json_tokens j) r);
        room = λ us. ap (fits depth) (append_assoc l.passed (json_tokens j) us) ∙ l.room (json_tokens j ++ us) ∙ json_fits j depth us shallow;
        turns = l.turns + 1;
        few = omega (arith, l.few, token, size);
        body = l.body ++ w;
        put = same ∙ ap (λ b. b ++ w) l.put ∙ append_assoc old l.body w;
        ahead = λ vs. l.ahead (tree v vs);
        rest = λ tail vs all. subst (λ (b : List ℕ). ArrayBody b (l.ahead (tree v vs))) (sym (append_assoc l.body w tail)) (l.rest (w ++ tail) (tree v vs) (value w tail v vs is all));
        read = λ d n us le enough.
            let long = length-append (json_tokens j) us in
            let some : 0 < n - l.turns = omega (arith, enough, size, l.few, token) in
            let one_less : n - l.turns - 1 ≡ n - (l.turns + 1) = omega arith in
            ap (λ ts. converted meanings (items (json.value d) n ts)) (append_assoc l.passed (json_tokens j) us)
            ∙ l.read d n (json_tokens j ++ us) le (omega (arith, enough, size, long))
            ∙ ap (parse_map l.ahead) (item_read (json.value d) (n - l.turns) (json_tokens j ++ us) us v some (not_end j us) (again d us le))
            ∙ map_twice l.ahead (tree v) _
            ∙ ap (λ m. parse_map (λ vs. l.ahead (tree v vs)) (converted meanings (items (json.value d) m us))) one_less;
        none = λ d n us le enough h.
            let long = length-append (json_tokens j) us in
            let some : 0 < n - l.turns = omega (arith, enough, size, l.few, token) in
            let one_less : n - l.turns - 1 ≡ n - (l.turns + 1) = omega arith in
            ap (items (json.value d) n) (append_assoc l.passed (json_tokens j) us)
            ∙ l.none d n (json_tokens j ++ us) le (omega (arith, enough, size, long))
            (no_item_after (json.value d) (n - l.turns) (json_tokens j ++ us) us v some (not_end j us) (again d us le) (ap (λ m. items (json.value d) m us) one_less ∙ h));
      }

  -- the fuel of the whole array is enough
  module _ (now : List Token) (new : List ℕ) (l : ItemsLeft depth first now old new) where
    whole : (d : ℕ) (us : List Token) → depth ≤ d → converted meanings (items_at d (l.passed ++ us)) ≡ parse_map l.ahead (converted meanings (items (json.value d) (length (l.passed ++ us) - l.turns) us))
    whole d us le = l.read d (length (l.passed ++ us)) us le (omega (arith, length-append l.passed us))

    left_over : (us : List Token) → length us ≤ length (l.passed ++ us) - l.turns
    left_over us = omega (arith, length-append l.passed us, l.few)

    from_first : (d : ℕ) → converted meanings (items_at d first) ≡ converted meanings (items_at d (l.passed ++ now))
    from_first d = ap (λ ts. converted meanings (items_at d ts)) l.split

    pub items_done : (r : List Token) → after_end_array now ≡ Some r → PutsValues (λ vs. IsRead depth meanings (λ d. items_at d first) vs r) old new
    items_done r end = (
      l.body,
      l.ahead no_trees,
      l.put,
      subst (λ (b : List ℕ). ArrayBody b (l.ahead no_trees)) (append-nil l.body) (l.rest [] no_trees no_values),
      λ d le. from_first d ∙ whole d now le ∙ ap (parse_map l.ahead) (items_over (json.value d) _ now r (left_over now) end),
    )

    pub items_none : (e : JsonError) → after_end_array now ≡ None → IsRefusal depth e meaning json.value now → IsRefusal depth e meanings items_at first
    items_none e going =
        refusal_on depth meanings items_at first (λ d. d) meaning json.value l.passed now l.split l.room e (λ d le. le)
        (λ d le h. ap (items_at d) l.split ∙ l.none d (length (l.passed ++ now)) now le (omega (arith, length-append l.passed now)) (items_fail (json.value d) _ now going h))
        (λ d le h. from_first d ∙ whole d now le ∙ ap (parse_map l.ahead) (item_refused (json.value d) _ now going h))
        (wrong_on depth meanings items_at first (λ d. d) meaning json.value l.passed now l.split l.room (λ d le. le)
        (λ d us le start h. whole d us le ∙ ap (parse_map l.ahead) (item_refused (json.value d) _ us (no_end now us start going) h)))
        (deep_on depth meanings items_at first (λ d. d) meaning json.value l.passed now l.split l.room (λ d lt. lt) (λ v. l.ahead (tree v no_trees)) (end_array ∷ [])
        (λ d us after x lt start found.
        let n = length (l.passed ++ us) - l.turns in
        let (j, spelled, means, shallow) = spelled_as d us (end_array ∷ after) x found in
        let size : length us ≡ length (json_tokens j) + suc (length after) = ap length spelled ∙ length-append (json_tokens j) (end_array ∷ after) in
        let token : 0 < length (json_tokens j) = some_token j in
        let enough : suc (length after) ≤ n - 1 = omega (arith, left_over us, size, token) in
        whole d us (omega (arith, lt)) ∙ ap (parse_map l.ahead) (item_read (json.value d) n us (end_array ∷ after) x (omega (arith, left_over us, size)) (no_end now us start going) found
        ∙ ap (parse_map (tree x)) (items_over (json.value d) (n - 1) (end_array ∷ after) after enough refl))))

-- ---- a table

-- the pairs of the tokens before `now` are put, and `next` is the key that was read after them. They are also if other
-- tokens are left
pub record PairsLeft (depth : ℕ) (start : List Token) (next : Option (List ℕ)) (now : List Token) (old new : List ℕ) : Type 0 where
  pub passed : List Token
  pub split : start ≡ passed ++ next_token next ∷ now
  pub room : (us : List Token) → fits depth (passed ++ us) ≡ fits depth us
  pub turns : ℕ
  pub few : turns ≤ length passed
  pub body : List ℕ
  pub put : new ≡ old ++ body
  pub ahead : Entries → Entries
  pub rest : (tail : List ℕ) (ps : Entries) → TableBody tail ps → TableBody (body ++ tail) (ahead ps)
  pub read : (d n : ℕ) (us : List Token) → depth ≤ d → length passed + length us ≤ n → converted pairs_of (members (json.value d) n (passed ++ us)) ≡ parse_map ahead (converted pairs_of (members (json.value d) (n - turns) us))
  pub none : (d n : ℕ) (us : List Token) → depth ≤ d → length passed + length us ≤ n → members (json.value d) (n - turns) us ≡ None → members (json.value d) n (passed ++ us) ≡ None

module _ (depth : ℕ) (start : List Token) (old : List ℕ) where
  pub pairs_first : (next : Option (List ℕ)) (now : List Token) → start ≡ next_token next ∷ now → PairsLeft depth start next now old old
  pairs_first next now is = record {
    passed = [];
    split = is;
    room = λ us. refl;
    turns = 0;
    few = omega arith;
    body = [];
    put = sym (append-nil old);
    ahead = λ ps. ps;
    rest = λ tail ps all. all;
    read = λ d n us le enough. let all : n ≡ n - 0 = omega arith in ap (λ m. converted pairs_of (members (json.value d) m us)) all ∙ map_same _;
    none = λ d n us le enough h. let all : n ≡ n - 0 = omega arith in ap (λ m. members (json.value d) m us) all ∙ h;
  }

  -- the key that was read is one
  pub key_is : (next : Option (Bor (List ℕ))) (k : Bor (List ℕ)) (now : List Token) (new : List ℕ) → next ≡ Some k → PairsLeft depth start (option_map (λ b. b.now) next) now old new → PairsLeft depth start (Some k.now) now old new
  key_is next k now new is left = subst (λ (n : Option (Bor (List ℕ))). PairsLeft depth start (option_map (λ b. b.now) n) now old new) is left

  pub pairs_next : (k : List ℕ) (next : Option (List ℕ)) (now r s : List Token) (mid keyed new : List ℕ) → PairsLeft depth start (Some k) now old mid → IsShort (entry_key k)
      → ((v : Tree) (ps : Option Entries) → with_entry k (Some v) ps ≡ option_map (entry (entry_key k) v) ps) → keyed ≡ mid ++ short_field (entry_key k)
      → PutsEncodingOf (λ v. IsRead depth meaning (λ d. json.value d now) v r) keyed new → read_key r ≡ Some (next, s) → PairsLeft depth start next s old new
  pairs_next k next now r s mid keyed new l is_key entry_put key_put (w, v, same, is, found) after =
      let (j, spelled, means, shallow) = spelled_as depth now r v (found depth (omega arith)) in
      let more = short_field (entry_key k) ++ w in
      let pair_tokens = key k ∷ json_tokens j in
      let size = length-append l.passed pair_tokens in
      let again : (d : ℕ) (us : List Token) → depth ≤ d → converted meaning (json.value d (json_tokens j ++ us)) ≡ Some (v, us) = λ d us le. read_again d j us v (omega (arith, shallow, le)) means in
      record {
        passed = l.passed ++ pair_tokens;
        split = l.split ∙ ap (λ ts. l.passed ++ key k ∷ ts) (spelled ∙ ap (λ ts. json_tokens j ++ ts) (next_is r next s after)) ∙ sym (append_assoc l.passed pair_tokens (next_token next ∷ s));
        room = λ us. ap (fits depth) (append_assoc l.passed pair_tokens us) ∙ l.room (pair_tokens ++ us) ∙ json_fits j depth us shallow;
        turns = l.turns + 1;
        few = omega (arith, l.few, size);
        body = l.body ++ more;
        put = same ∙ ap (λ b. b ++ w) key_put ∙ append_assoc mid (short_field (entry_key k)) w ∙ ap (λ b. b ++ more) l.put ∙ append_assoc old l.body more;
        ahead = λ ps. l.ahead (entry (entry_key k) v ps);
        rest = λ tail ps all.
            let joined : (l.body ++ more) ++ tail ≡ l.body ++ (short_field (entry_key k) ++ (w ++ tail)) = append_assoc l.body more tail ∙ ap (λ b. l.body ++ b) (append_assoc (short_field (entry_key k)) w tail) in
            subst (λ (b : List ℕ). TableBody b (l.ahead (entry (entry_key k) v ps))) (sym joined) (l.rest (short_field (entry_key k) ++ (w ++ tail)) (entry (entry_key k) v ps) (pair (entry_key k) w tail v ps is_key is all));
        read = λ d n us le enough.
            let long = length-append pair_tokens us in
            let some : 0 < n - l.turns = omega (arith, enough, size, l.few) in
            let one_less : n - l.turns - 1 ≡ n - (l.turns + 1) = omega arith in
            ap (λ ts. converted pairs_of (members (json.value d) n ts)) (append_assoc l.passed pair_tokens us)
            ∙ l.read d n (pair_tokens ++ us) le (omega (arith, enough, size, long))
            ∙ ap (parse_map l.ahead) (member_read (json.value d) (n - l.turns) k (json_tokens j ++ us) us v some (entry_put v) (again d us le))
            ∙ map_twice l.ahead (entry (entry_key k) v) _
            ∙ ap (λ m. parse_map (λ ps. l.ahead (entry (entry_key k) v ps)) (converted pairs_of (members (json.value d) m us))) one_less;
        none = λ d n us le enough h.
            let long = length-append pair_tokens us in
            let some : 0 < n - l.turns = omega (arith, enough, size, l.few) in
            let one_less : n - l.turns - 1 ≡ n - (l.turns + 1) = omega arith in
            ap (members (json.value d) n) (append_assoc l.passed pair_tokens us)
            ∙ l.none d n (pair_tokens ++ us) le (omega (arith, enough, size, long))
            (no_member_after (json.value d) (n - l.turns) k (json_tokens j ++ us) us v some (again d us le) (ap (λ m. members (json.value d) m us) one_less ∙ h));
      }

  -- the fuel of the whole object is enough
  module _ (next : Option (List ℕ)) (now : List Token) (new : List ℕ) (l : PairsLeft depth start next now old new) where
    whole_pairs : (d : ℕ) (us : List Token) → depth ≤ d → converted pairs_of (members_at d (l.passed ++ us)) ≡ parse_map l.ahead (converted pairs_of (members (json.value d) (length (l.passed ++ us) - l.turns) us))
    whole_pairs d us le = l.read d (length (l.passed ++ us)) us le (omega (arith, length-append l.passed us))

    no_pairs_whole : (d : ℕ) (us : List Token) → depth ≤ d → members (json.value d) (length (l.passed ++ us) - l.turns) us ≡ None → members_at d (l.passed ++ us) ≡ None
    no_pairs_whole d us le = l.none d (length (l.passed ++ us)) us le (omega (arith, length-append l.passed us))

    pairs_over : (us : List Token) → length us ≤ length (l.passed ++ us) - l.turns
    pairs_over us = omega (arith, length-append l.passed us, l.few)

    from_start : (d : ℕ) → converted pairs_of (members_at d start) ≡ converted pairs_of (members_at d (l.passed ++ next_token next ∷ now))
    from_start d = ap (λ ts. converted pairs_of (members_at d ts)) l.split

  pub pairs_done : (now : List Token) (new : List ℕ) → PairsLeft depth start None now old new → PutsPairs (λ ps. IsRead depth pairs_of (λ d. members_at d start) ps now) old new
  pairs_done now new l = (
    l.body,
    l.ahead no_entries,
    l.put,
    subst (λ (b : List ℕ). TableBody b (l.ahead no_entries)) (append-nil l.body) (l.rest [] no_entries no_pairs),
    λ d le. from_start None now new l d ∙ whole_pairs None now new l d (next_token None ∷ now) le
        ∙ ap (parse_map l.ahead) (members_over (json.value d) _ now (omega (arith, pairs_over None now new l (next_token None ∷ now)))),
  )

  module _ (k : List ℕ) (now : List Token) (new : List ℕ) (e : JsonError) (l : PairsLeft depth start (Some k) now old new) where
    abbrev passed_key : List Token
    passed_key = l.passed ++ key k ∷ []

    split_key : start ≡ passed_key ++ now
    split_key = l.split ∙ sym (append_assoc l.passed (key k ∷ []) now)

    room_key : (us : List Token) → fits depth (passed_key ++ us) ≡ fits depth us
    room_key us = ap (fits depth) (append_assoc l.passed (key k ∷ []) us) ∙ l.room (key k ∷ us)

    whole_key : (d : ℕ) (us : List Token) → depth ≤ d → converted pairs_of (members_at d (passed_key ++ us)) ≡ parse_map l.ahead (converted pairs_of (members (json.value d) (length (l.passed ++ key k ∷ us) - l.turns) (key k ∷ us)))
    whole_key d us le = ap (λ ts. converted pairs_of (members_at d ts)) (append_assoc l.passed (key k ∷ []) us) ∙ whole_pairs (Some k) now new l d (key k ∷ us) le

    -- the key is none of a table
    pub key_none : OnMismatch e ((v : Option Tree) (ps : Option Entries) → with_entry k v ps ≡ None) → IsRefusal depth e pairs_of members_at start
    key_none =
        refusal_by depth pairs_of members_at start e ((v : Option Tree) (ps : Option Entries) → with_entry k v ps ≡ None)
        (λ h d le. from_start (Some k) now new l d ∙ whole_pairs (Some k) now new l d (key k ∷ now) le ∙ ap (parse_map l.ahead) (member_refused (json.value d) _ k now (λ j r at ps. h (meaning j) ps)))
        (λ h. wrong_after depth pairs_of members_at start depth passed_key now split_key room_key
        (λ d us le begins. whole_key d us le ∙ ap (parse_map l.ahead) (member_refused (json.value d) _ k us (λ j r at ps. h (meaning j) ps))))

    pub pair_none : ((v : Tree) (ps : Option Entries) → with_entry k (Some v) ps ≡ option_map (entry (entry_key k) v) ps) → IsRefusal depth e meaning json.value now → IsRefusal depth e pairs_of members_at start
    pair_none entry_put =
        refusal_on depth pairs_of members_at start (λ d. d) meaning json.value passed_key now split_key room_key e (λ d le. le)
        (λ d le h. ap (members_at d) l.split ∙ no_pairs_whole (Some k) now new l d (key k ∷ now) le (members_fail (json.value d) _ k (key k ∷ now) now refl h))
        (λ d le h. from_start (Some k) now new l d ∙ whole_pairs (Some k) now new l d (key k ∷ now) le ∙ ap (parse_map l.ahead) (member_refused (json.value d) _ k now (λ j r at ps. no_entry k (meaning j) ps (none_is (json.value d now) j r at h))))
        (wrong_on depth pairs_of members_at start (λ d. d) meaning json.value passed_key now split_key room_key (λ d le. le)
        (λ d us le begins h. whole_key d us le ∙ ap (parse_map l.ahead) (member_refused (json.value d) _ k us (λ j r at ps. no_entry k (meaning j) ps (none_is (json.value d us) j r at h)))))
        (deep_on depth pairs_of members_at start (λ d. d) meaning json.value passed_key now split_key room_key (λ d lt. lt) (λ v. l.ahead (entry (entry_key k) v no_entries)) (end_object ∷ [])
        (λ d us after x lt begins found.
        let n = length (l.passed ++ key k ∷ us) - l.turns in
        let (j, spelled, means, shallow) = spelled_as d us (end_object ∷ after) x found in
        let size : length us ≡ length (json_tokens j) + suc (length after) = ap length spelled ∙ length-append (json_tokens j) (end_object ∷ after) in
        let enough : 0 < n - 1 = omega (arith, pairs_over (Some k) now new l (key k ∷ us), size) in
        whole_key d us (omega (arith, lt)) ∙ ap (parse_map l.ahead) (member_read (json.value d) n k us (end_object ∷ after) x (omega (arith, enough)) (entry_put x) found
        ∙ ap (parse_map (entry (entry_key k) x)) (members_over (json.value d) (n - 1) after enough))))

    -- no key follows, nor the end
    pub next_none : IsSyntax e → (r : List Token) (keyed put : List ℕ) → PutsEncodingOf (λ v. IsRead depth meaning (λ d. json.value d now) v r) keyed put → read_key r ≡ None → IsRefusal depth e pairs_of members_at start
    next_none is r keyed put (w, v, same, encodes, found) none =
        let (j, spelled, means, shallow) = spelled_as depth now r v (found depth (omega arith)) in
        let after_value : (d : ℕ) (us : List Token) → depth ≤ d → read_key us ≡ None → members_at d (passed_key ++ (json_tokens j ++ us)) ≡ None =
        λ d us le keyless.
        let n = length (l.passed ++ key k ∷ (json_tokens j ++ us)) - l.turns in
        ap (members_at d) (append_assoc l.passed (key k ∷ []) (json_tokens j ++ us))
        ∙ no_pairs_whole (Some k) now new l d (key k ∷ (json_tokens j ++ us)) le
        (no_member_after (json.value d) n k (json_tokens j ++ us) us v (omega (arith, pairs_over (Some k) now new l (key k ∷ (json_tokens j ++ us)))) (read_again d j us v (omega (arith, shallow, le)) means)
        (members_no_key (json.value d) (n - 1) us keyless)) in
        let split : start ≡ (passed_key ++ json_tokens j) ++ r = split_key ∙ ap (λ ts. passed_key ++ ts) spelled ∙ sym (append_assoc passed_key (json_tokens j) r) in
        refusal_of depth pairs_of members_at start e is
        (λ d le. ap (members_at d) (split_key ∙ ap (λ ts. passed_key ++ ts) spelled) ∙ after_value d r le none)
        (wrong_after depth pairs_of members_at start depth (passed_key ++ json_tokens j) r split
        (λ us. ap (fits depth) (append_assoc passed_key (json_tokens j) us) ∙ room_key (json_tokens j ++ us) ∙ json_fits j depth us shallow)
        (λ d us le begins. ap (λ ts. converted pairs_of (members_at d ts)) (append_assoc passed_key (json_tokens j) us) ∙ ap (converted pairs_of) (after_value d us le (no_key r us begins none))))

-- ---- a container's head

abbrev pub zeros : List ℕ
zeros = 0 ∷ 0 ∷ 0 ∷ 0 ∷ []

-- the length of w is filled in before it
length_filled : (c at : ℕ) (old mid end new w : List ℕ) → at ≡ length old + 1 → mid ≡ old ++ c ∷ zeros → end ≡ mid ++ w
    → new ≡ take at end ++ (to_be_bytes w32 (length end - at - 4) ++ drop (at + 4) end) → (length end - at - 4 ≡ length w) × (new ≡ old ++ c ∷ long_field w)
length_filled c at old mid end new w place headed more filled =
    let start = old ++ c ∷ [] in
    let whole : end ≡ start ++ (zeros ++ w) = more ∙ ap (λ b. b ++ w) (headed ∙ sym (append_assoc old (c ∷ []) zeros)) ∙ append_assoc start zeros w in
    let here : at ≡ length start = place ∙ sym (length-append old (c ∷ [])) in
    let count = ap length whole ∙ length-append start (zeros ++ w) in
    let size : length end - at - 4 ≡ length w = omega (arith, count, here) in
    let before : take at end ≡ start = ap (λ n. take n end) here ∙ ap (take (length start)) whole ∙ take-append_seam start (zeros ++ w) in
    let after : drop (at + 4) end ≡ w = ap (λ n. drop (n + 4) end) here ∙ ap (drop (length start + 4)) whole ∙ drop-append-add start (zeros ++ w) 4 in (
      size,
      filled ∙ ap (λ b. b ++ (to_be_bytes w32 (length end - at - 4) ++ drop (at + 4) end)) before
          ∙ ap (λ n. start ++ (to_be_bytes w32 n ++ drop (at + 4) end)) size
          ∙ ap (λ b. start ++ (to_be_bytes w32 (length w) ++ b)) after
          ∙ append_assoc old (c ∷ []) (long_field w),
    )

module _ (at : ℕ) (old mid end new : List ℕ) (place : at ≡ length old + 1) (filled : new ≡ take at end ++ (to_be_bytes w32 (length end - at - 4) ++ drop (at + 4) end)) (fits : length end - at - 4 < 2 ^ 32) where
  pub array_put : (P : Trees → Type 0) (Q : Tree → Type 0) → ((vs : Trees) → P vs → Q (array vs)) → mid ≡ old ++ 65 ∷ zeros → PutsValues P mid end → PutsEncodingOf Q old new
  array_put P Q f headed (w, vs, more, all, is) =
      let done = length_filled 65 at old mid end new w place headed more filled in
      (65 ∷ long_field w, array vs, done.1, wire 65 _ (long_field w) (array vs) refl (raw_array w vs (subst (λ n. n < 2 ^ 32) done.0 fits) all), f vs is)

  pub table_put : (P : Entries → Type 0) (Q : Tree → Type 0) → ((ps : Entries) → P ps → Q (table_of ps)) → mid ≡ old ++ 70 ∷ zeros → PutsPairs P mid end → PutsEncodingOf Q old new
  table_put P Q f headed (w, ps, more, all, is) =
      let done = length_filled 70 at old mid end new w place headed more filled in
      (70 ∷ long_field w, table_of ps, done.1, wire 70 _ (long_field w) (table_of ps) refl (raw_table w ps (insert_all no_entries ps) (subst (λ n. n < 2 ^ 32) done.0 fits) all (put_mean ps)), f ps is)

-- ---- scalars and strings

pub puts_weaker : (P Q : Tree → Type 0) (old new : List ℕ) → ((v : Tree) → P v → Q v) → PutsEncodingOf P old new → PutsEncodingOf Q old new
puts_weaker P Q old new f (w, v, more, is, h) = (w, v, more, is, f v h)

pub scalar_put : (P : Tree → Type 0) (old new : List ℕ) (v : Tree) → PutsScalar v old new → P v → PutsEncodingOf P old new
scalar_put P old new v (x, is, held, put) h = (text v, v, put, subst (λ t. Wire (text t) t) (sym is) (text_is_wire (scalar x) held tt refl), h)

pub long_put : (P : Tree → Type 0) (old new s : List ℕ) → new ≡ old ++ 83 ∷ long_field s → length s < 2 ^ 32 → P (long s) → PutsEncodingOf P old new
long_put P old new s put fits h = (83 ∷ long_field s, long s, put, wire 83 _ (long_field s) (long s) refl (raw_long s fits), h)

pub octets_put : (P : Tree → Type 0) (old new s : List ℕ) → new ≡ old ++ 120 ∷ long_field s → length s < 2 ^ 32 → P (octets s) → PutsEncodingOf P old new
octets_put P old new s put fits h = (120 ∷ long_field s, octets s, put, wire 120 _ (long_field s) (octets s) refl (raw_octets s fits), h)

integer_put : (P : Tree → Type 0) (old new : List ℕ) (found : Option Tree) → ((v : Tree) → found ≡ Some v → P v) → PutsInteger found old new → PutsEncodingOf P old new
integer_put P old new (Some (scalar x)) h put = scalar_put P old new (scalar x) (x, refl, put.1, put.0) (h (scalar x) refl)
integer_put P old new _ h put = absurd put

pub number_put : (type : AMQPType) (s old new : List ℕ) → PutsInteger (number_as type s) old new → PutsEncodingOf (λ v. number_as type s ≡ Some v) old new
number_put type s old new = integer_put (λ v. number_as type s ≡ Some v) old new (number_as type s) (λ v h. h)

-- the bits of a float are its payload
pub float_put : (P : Tree → Type 0) (old new b : List ℕ) → new ≡ old ++ 102 ∷ b → length b ≡ 4 → P (scalar (values.number amqp.Float (from_be_bytes w32 b))) → PutsEncodingOf P old new
float_put P old new b put size h = (102 ∷ b, scalar (values.number amqp.Float (from_be_bytes w32 b)), put, wire 102 amqp.Float b _ refl (raw_fixed amqp.Float (whole_number w32 amqp.Float) b refl size), h)

pub double_put : (P : Tree → Type 0) (old new b : List ℕ) → new ≡ old ++ 100 ∷ b → length b ≡ 8 → P (scalar (values.number amqp.Double (from_be_bytes w64 b))) → PutsEncodingOf P old new
double_put P old new b put size h = (100 ∷ b, scalar (values.number amqp.Double (from_be_bytes w64 b)), put, wire 100 amqp.Double b _ refl (raw_fixed amqp.Double (whole_number w64 amqp.Double) b refl size), h)
