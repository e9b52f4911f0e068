-- `PutsBytes`, `PutsTokens` and `PutsJson` step by step: bytes, tokens, values and pairs that are
-- put after others in a buffer. For `src/printing`.
use Rattle.std.proofs.Common.{◌≡◌, Bool, ℕ, min, ◌+◌, ◌-◌, ◌<◌, List, [], ◌∷◌, ◌*◌, ◌^◌, ◌++◌, length, take, drop, length-append, refl, sym, ap, ◌∙◌, subst, false, true, append_assoc, append-nil, arith, ◌≤◌}
use Rattle.std.proofs.lemmas.List.{take_at}
use Rattle.hex.proofs.HexLemmas.{length-encode_with}
use Rattle.hex.specs.Hex.{lower_digits, encode_lower}
use Rattle.json.specs.Token.{Token, begin_object, key, end_array, end_object}
use Rattle.json.specs.Print.{print, print_from, ends, ends_value, separator, token_text}
use Rattle.json.proofs.Printed.Tokens.{print_from_push, print_from-append, ends_push}
use Rattle.amqp_json.specs.declared.printing.tokens.Place.{Place}
use Rattle.amqp_json.specs.printing.Buffers.{Begins, PutsBytes, AreTokensPrinted, PutsTokens, PutsJson, body_len}
use Rattle.amqp_json.specs.Written.{written_key, under, long_written, written, items_written, members_written}
use Rattle.std.specs.Str.{IsUtf8, is_utf8}
use Rattle.std.proofs.lemmas.Str.{IsUtf8-from_is_utf8, is_utf8-from_IsUtf8}
use Rattle.json.specs.Json.{string}
use Rattle.amqp_value_core.specs.declared.types.amqp_type.AMQPType.TheVariants as amqp
use Rattle.std.specs.Borrow.{Bor}
use Rattle.json.specs.Tree.{json_tokens, items_tokens, members_tokens}
use Rattle.amqp_value_core.specs.Values as values
use Rattle.amqp_value_core.specs.Values.{Tree, Trees, no_trees, tree, Entries, no_entries, entry}
use Rattle.amqp_value_core.specs.Grammar.{Wire, wire}
use Rattle.amqp_in_place.specs.declared.refs.ArrayRef.{ArrayRef}
use Rattle.amqp_in_place.specs.declared.refs.TableRef.{TableRef}
use Rattle.amqp_in_place.specs.Refs.{array_body, table_body, Denotes}
use Rattle.amqp_in_place.specs.Places.{IsViewIn, IsPairViewIn}
use Rattle.amqp_in_place.specs.Heads.{IsPlainRef}
use Rattle.amqp_in_place.specs.Written.{IsWrittenAs, WrittenValues, WrittenPairs}
use Rattle.amqp_json.proofs.AsWritten.{ValueWritten, PairWritten}
use Rattle.amqp_in_place.specs.declared.refs.ValueRef.{ValueRef}
use Rattle.amqp_in_place.specs.declared.refs.ValueRef.TheVariants as viewed

-- ---- bytes and tokens

pub puts_more : (a b c : List ℕ) (i j k : ℕ) (xs ys : List ℕ) → PutsBytes a i b j xs → PutsBytes b j c k ys → PutsBytes a i c k (xs ++ ys)
puts_more a b c i j k xs ys p q = λ start t h. subst (λ (u : List ℕ). Begins start c k u) (append_assoc t xs ys) (q start (t ++ xs) (p start t h))

pub puts_as : (a : List ℕ) (i : ℕ) (b : List ℕ) (j : ℕ) (xs ys : List ℕ) → xs ≡ ys → PutsBytes a i b j xs → PutsBytes a i b j ys
puts_as a i b j xs ys e p = subst (λ (l : List ℕ). PutsBytes a i b j l) e p

-- bytes that are put into a buffer that has room for them are its first bytes
pub bytes_first : (old new t : List ℕ) (end : ℕ) → PutsBytes old 0 new end t → length t ≤ length old → length old < 2 ^ 63 → (end ≡ length t) × (take end new ≡ t)
bytes_first old new t end puts fits few =
    let is = puts old [] (record { count = refl; same = refl; text = λ h. refl }) in
    let size : end ≡ length t = omega (arith, is.count, fits, few) in
    (size, ap (take end) (is.text fits) ∙ take_at t (drop (length t) old) end (sym size))

pub tokens_more : (a b c : List ℕ) (p q r : Place) (us vs : List Token) → PutsTokens a p b q us → PutsTokens b q c r vs → PutsTokens a p c r (us ++ vs)
tokens_more a b c p q r us vs x y = λ start ts h. subst (λ (ws : List Token). AreTokensPrinted start c r ws) (append_assoc ts us vs) (y start (ts ++ us) (x start ts h))

pub token_put : (a b c : List ℕ) (p r : Place) (at : ℕ) (t : Token) → PutsBytes a p.count b at (separator p.after_value t) → PutsBytes b at c r.count (token_text t) → r.after_value ≡ ends t → PutsTokens a p c r (t ∷ [])
token_put a b c p r at t x y e = λ start ts h.
    let both = puts_more a b c p.count at r.count (separator p.after_value t) (token_text t) x y start (print ts) h.text in
    let same : print ts ++ (separator p.after_value t ++ token_text t) ≡ print (ts ++ t ∷ []) = ap (λ b. print ts ++ (separator b t ++ token_text t)) h.after ∙ sym (print_from_push false ts t) in
    record { text = subst (λ (u : List ℕ). Begins start c r.count u) same both; after = e ∙ sym (ends_push false ts t) }

-- an opening brace and a key
pub name_put : (a b c : List ℕ) (p r : Place) (at : ℕ) (s : List ℕ) → PutsBytes a p.count b at (separator p.after_value begin_object) → PutsBytes b at c r.count (123 ∷ token_text (key s))
    → r.after_value ≡ false → PutsTokens a p c r (begin_object ∷ key s ∷ [])
unfolding print_from
name_put a b c p r at s x y e = λ start ts h.
    let both = puts_more a b c p.count at r.count (separator p.after_value begin_object) (123 ∷ token_text (key s)) x y start (print ts) h.text in
    let same : print ts ++ (separator p.after_value begin_object ++ 123 ∷ token_text (key s)) ≡ print (ts ++ begin_object ∷ key s ∷ []) =
    ap (λ b. print ts ++ (separator b begin_object ++ 123 ∷ token_text (key s))) h.after
    ∙ ap (λ l. print ts ++ (separator (ends_value ts) begin_object ++ 123 ∷ l)) (sym (append-nil (token_text (key s))))
    ∙ sym (print_from-append false ts (begin_object ∷ key s ∷ [])) in
    record {
      text = subst (λ (u : List ℕ). Begins start c r.count u) same both;
      after = e ∙ sym (ap ends_value (sym (append_assoc ts (begin_object ∷ []) (key s ∷ []))) ∙ ends_push false (ts ++ begin_object ∷ []) (key s));
    }

-- hexadecimal digits that a buffer isn't large enough for
pub digits_counted : (a : List ℕ) (at end : ℕ) (bytes : List ℕ) → end ≡ min (at + 2 * length bytes) (2 ^ 64 - 1) → length a < end → PutsBytes a at a end (encode_lower bytes)
digits_counted a at end bytes is over = λ start t h.
    let long = length-append t (encode_lower bytes) in
    let twice = length-encode_with lower_digits bytes in
    record {
      count = omega (arith, is, long, twice, h.count);
      same = h.same;
      text = λ fits. absurd (omega (arith, is, over, long, twice, fits, h.count, h.same));
    }

-- ---- long strings

-- a long string that is UTF-8 is that string
pub text_is_plain : (s : List ℕ) → IsUtf8 s → long_written s ≡ string s
text_is_plain s h = rw (is_utf8-from_IsUtf8 s h)

known : (s : List ℕ) (b : Bool) → is_utf8 s ≡ b → (IsUtf8 s → ⊥) → b ≡ false
known s true e h = absurd (h (IsUtf8-from_is_utf8 s e))
known s false e h = refl

-- and one that isn't is in hexadecimal
pub bytes_are_named : (s : List ℕ) → (IsUtf8 s → ⊥) → long_written s ≡ under amqp.LongString (string (encode_lower s))
bytes_are_named s h = rw (known s (is_utf8 s) refl h)

-- ---- how many bytes are in a container

plain_len : (s rest w : List ℕ) (v : Tree) → Wire w v → s ≡ w ++ rest → 0 < length s
plain_len s rest _ v (wire c type b _ is raw) e = omega (arith, ap length e)

-- fewer than the bytes that it is at the start of
pub body_shorter : (r : ValueRef) (s rest : List ℕ) → IsViewIn s r rest → body_len r < length s
body_shorter (viewed.FieldArray a) s rest (c, k, few, e) = omega (arith, ap length e, length-append (array_body a) rest)
body_shorter (viewed.FieldTable t) s rest (c, k, few, e) = omega (arith, ap length e, length-append (table_body t) rest)
body_shorter (viewed.LongString b) s rest (c, k, few, e) = omega (arith, ap length e)
body_shorter (viewed.ByteArray b) s rest (c, k, few, e) = omega (arith, ap length e)
body_shorter _ s rest y = plain_len s rest y.0 _ y.1 y.2

pub pair_shorter : (s k rest : List ℕ) (r : ValueRef) → IsPairViewIn s k r rest → body_len r < length s
pair_shorter s k rest r (after, e, inside) = omega (arith, body_shorter r after rest inside, ap length e, length-append k after)

-- ---- an array

pub item_put : (a : List ℕ) (p : Place) (b : List ℕ) (q : Place) (c : List ℕ) (r : Place) (done target : List Token) (rest : Trees) (x : ValueRef) (left : List ℕ) → ValueWritten rest x left
    → PutsTokens a p b q done → ((t : Tree) → IsWrittenAs x t → PutsJson b q c r (written t)) → done ++ items_tokens (items_written rest) ≡ target
    → (more : List Token) × (ys : Trees) × WrittenValues left ys × PutsTokens a p c r more × (more ++ items_tokens (items_written ys) ≡ target)
item_put a p b q c r done target no_trees x left step put puts e = absurd step
item_put a p b q c r done target (tree v vs) x left step put puts e =
    let value = json_tokens (written v) in
    let more = items_tokens (items_written vs) in
    (done ++ value, vs, step.1, tokens_more a b c p q r done value put (puts v step.0), append_assoc done value more ∙ e)

pub items_end : (a : List ℕ) (p : Place) (b : List ℕ) (q : Place) (c : List ℕ) (r : Place) (done target : List Token) (rest : Trees) → rest ≡ no_trees
    → PutsTokens a p b q done → PutsTokens b q c r (end_array ∷ []) → done ++ items_tokens (items_written rest) ≡ target → PutsTokens a p c r target
items_end a p b q c r done target rest none put puts e =
    subst (λ (ts : List Token). PutsTokens a p c r ts) (ap (λ us. done ++ items_tokens (items_written us)) (sym none) ∙ e) (tokens_more a b c p q r done (end_array ∷ []) put puts)

-- ---- a table

pub pair_put : (a : List ℕ) (p : Place) (b : List ℕ) (q : Place) (d : List ℕ) (m : Place) (c : List ℕ) (r : Place) (done target : List Token) (rest : Entries) (x : Bor (List ℕ) × ValueRef) (left : List ℕ)
    → PairWritten rest x left → PutsTokens a p b q done → PutsTokens b q d m (key (written_key x.0.now) ∷ []) → ((t : Tree) → IsWrittenAs x.1 t → PutsJson d m c r (written t))
    → done ++ members_tokens (members_written rest) ≡ target
    → (more : List Token) × (ys : Entries) × WrittenPairs left ys × PutsTokens a p c r more × (more ++ members_tokens (members_written ys) ≡ target)
pair_put a p b q d m c r done target no_entries x left step put keyed puts e = absurd step
pair_put a p b q d m c r done target (entry k v es) x left step put keyed puts e =
    let value = json_tokens (written v) in
    let more = members_tokens (members_written es) in
    let name = key (written_key k) in
    let named : PutsTokens b q d m (name ∷ []) = subst (λ (j : List ℕ). PutsTokens b q d m (key (written_key j) ∷ [])) step.0 keyed in (
      done ++ name ∷ value,
      es,
      step.2,
      tokens_more a b c p q r done (name ∷ value) put (tokens_more b d c q m r (name ∷ []) value named (puts v step.1)),
      append_assoc done (name ∷ value) more ∙ e,
    )

pub pairs_end : (a : List ℕ) (p : Place) (b : List ℕ) (q : Place) (c : List ℕ) (r : Place) (done target : List Token) (rest : Entries) → rest ≡ no_entries
    → PutsTokens a p b q done → PutsTokens b q c r (end_object ∷ []) → done ++ members_tokens (members_written rest) ≡ target → PutsTokens a p c r target
pairs_end a p b q c r done target rest none put puts e =
    subst (λ (ts : List Token). PutsTokens a p c r ts) (ap (λ us. done ++ members_tokens (members_written us)) (sym none) ∙ e) (tokens_more a b c p q r done (end_object ∷ []) put puts)

-- ---- a value

pub no_container : (r : ValueRef) → ((a : ArrayRef) → r ≡ viewed.FieldArray a → ⊥) → ((t : TableRef) → r ≡ viewed.FieldTable t → ⊥) → IsPlainRef r
no_container (viewed.FieldArray a) n m = n a refl
no_container (viewed.FieldTable t) n m = m t refl
no_container _ n m = tt

-- one that is no container is written as it is
pub leaf_written : (r : ValueRef) (t : Tree) → IsPlainRef r → IsWrittenAs r t → Denotes r t
leaf_written (viewed.FieldArray a) t plain is = absurd plain
leaf_written (viewed.FieldTable b) t plain is = absurd plain
leaf_written _ t plain is = is

pub array_put : (a : List ℕ) (p : Place) (c : List ℕ) (e : Place) (r : ValueRef) (x : ArrayRef) → r ≡ viewed.FieldArray x
    → ((ts : Trees) → WrittenValues (array_body x) ts → PutsJson a p c e (written (values.array ts))) → (t : Tree) → IsWrittenAs r t → PutsJson a p c e (written t)
array_put a p c e r x is puts t has =
    let means : IsWrittenAs (viewed.FieldArray x) t = subst (λ (y : ValueRef). IsWrittenAs y t) is has in
    subst (λ (u : Tree). PutsJson a p c e (written u)) (sym means.2) (puts means.0 means.1)

pub table_put : (a : List ℕ) (p : Place) (c : List ℕ) (e : Place) (r : ValueRef) (x : TableRef) → r ≡ viewed.FieldTable x
    → ((ps : Entries) → WrittenPairs (table_body x) ps → PutsJson a p c e (written (values.table ps))) → (t : Tree) → IsWrittenAs r t → PutsJson a p c e (written t)
table_put a p c e r x is puts t has =
    let means : IsWrittenAs (viewed.FieldTable x) t = subst (λ (y : ValueRef). IsWrittenAs y t) is has in
    subst (λ (u : Tree). PutsJson a p c e (written u)) (sym means.2) (puts means.0 means.1)

-- ---- what is left is shorter

wire_some : (w : List ℕ) (v : Tree) → Wire w v → 0 < length w
wire_some _ v (wire c type b _ is raw) = omega arith

pub left_of : (r : ValueRef) (s rest : List ℕ) → IsViewIn s r rest → length rest < length s
left_of (viewed.FieldArray a) s rest (c, k, few, e) = omega (arith, ap length e, length-append (array_body a) rest)
left_of (viewed.FieldTable t) s rest (c, k, few, e) = omega (arith, ap length e, length-append (table_body t) rest)
left_of (viewed.LongString b) s rest (c, k, few, e) = omega (arith, ap length e, length-append b.now rest)
left_of (viewed.ByteArray b) s rest (c, k, few, e) = omega (arith, ap length e, length-append b.now rest)
left_of _ s rest y = omega (arith, ap length y.2, length-append y.0 rest, wire_some y.0 _ y.1)

pub left_of_pair : (s k rest : List ℕ) (r : ValueRef) → IsPairViewIn s k r rest → length rest ≤ length s
left_of_pair s k rest r (after, e, inside) = omega (arith, left_of r after rest inside, ap length e, length-append k after)
