-- `all_print`: words whose characters all print are shown as they are. For `src/screen.rt`.
use Rattle.std.proofs.Common.{◌≡◌, ℕ, Bool, true, cond, ◌&&◌, ◌||◌, ◌==◌, List, [], ◌∷◌, ◌++◌, map, refl, sym, ap, subst, ◌∙◌}
use Rattle.std.proofs.lemmas.Bool.{and_parts, and_from}
use Rattle.std.proofs.lemmas.List.{map-id}
use Rattle.std.proofs.lemmas.Str.{encodes-chars}
use Rattle.std.specs.Char.{encode_utf8}
use Rattle.std.specs.List.{flat_map}
use Rattle.std.specs.Str.{chars, IsUtf8}
use Rattle.amqp_show.specs.Screens.{prints, all_print, names_colour, is_showable, IsShowable, escape, shown_character, in_line}

pub one_more_prints : (s : List ℕ) (c : ℕ) → all_print s ≡ true → prints c ≡ true → all_print (s ++ c ∷ []) ≡ true
one_more_prints [] c h p = and_from (prints c) true p refl
one_more_prints (d ∷ s) c h p =
    let both = and_parts (prints d) (all_print s) h in
    and_from (prints d) (all_print (s ++ c ∷ [])) both.0 (one_more_prints s c both.1 p)

-- what an iterator has yielded is all of them
pub all_of_them_print : (s all : List ℕ) → map (λ y. y) s ≡ all → all_print s ≡ true → all_print all ≡ true
all_of_them_print s all e h = subst (λ l. all_print l ≡ true) (sym (map-id s) ∙ e) h

printing_shows : (colours : Bool) (s : List ℕ) → all_print s ≡ true → is_showable colours s ≡ true
printing_shows colours [] h = refl
printing_shows colours (c ∷ s) h =
    let both = and_parts (prints c) (all_print s) h in
    and_from _ (is_showable colours s) (ap (λ b. b || (c == 10 || (colours && (c == 27 && names_colour s)))) both.0) (printing_shows colours s both.1)

-- they are shown as they are, whether there are colours or not
pub printing_showable : (colours : Bool) (words : List ℕ) → all_print (chars words) ≡ true → IsShowable colours words
printing_showable colours words h = printing_shows colours (chars words) h

printing_encoded : (s : List ℕ) → all_print s ≡ true → flat_map shown_character s ≡ flat_map encode_utf8 s
printing_encoded [] h = refl
printing_encoded (c ∷ s) h =
    let both = and_parts (prints c) (all_print s) h in
    ap (λ b. cond b (encode_utf8 c) (escape c) ++ flat_map shown_character s) both.0 ∙ ap (λ t. encode_utf8 c ++ t) (printing_encoded s both.1)

pub printing_line : (words : List ℕ) → IsUtf8 words → all_print (chars words) ≡ true → in_line words ≡ words
printing_line words u h = printing_encoded (chars words) h ∙ encodes-chars words u
