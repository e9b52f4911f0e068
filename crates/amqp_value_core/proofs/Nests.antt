-- `nesting`, how deep an encoding nests, is at most a fifth of its length, and `WireWithin` holds
-- with a depth exactly if `nesting` is at most that.
use Rattle.std.proofs.Common.{ℕ, zero, suc, max, ◌*◌, ◌≤◌, ◌≡◌, ◌≢◌, ◌↔◌, ◌∙◌, refl, List, ◌++◌, length, Some, None, sym, ap, arith, length-append}
use Rattle.amqp_value_core.specs.declared.types.amqp_type.AMQPType.TheVariants as amqp
use Rattle.amqp_value_core.specs.Layouts.{Layout, fixed}
use Rattle.amqp_value_core.specs.declared.types.amqp_type.AMQPType.{AMQPType}
use Rattle.amqp_value_core.specs.Values.{Tree, scalar, short, long, octets, Trees, Entries}
use Rattle.amqp_value_core.specs.Grammar.{short_field, long_field, Wire, Raw, ArrayBody, TableBody, wire, raw_fixed, raw_short, raw_long, raw_octets, raw_array, raw_table, no_values, value, no_pairs, pair}
use Rattle.amqp_value_core.specs.Nesting.{WireWithin, within_wire, RawWithin, within_plain, within_array, within_table, BodyWithin, within_no_values, within_value, PairsWithin, within_no_pairs, within_pair, nesting, raw_nesting, body_nesting, pairs_nesting}

mutual
  -- an encoding has five bytes for each container
  pub nesting-le : (w : List ℕ) (v : Tree) (p : Wire w v) → 5 * nesting w v p ≤ length w
  nesting-le _ _ (wire c type b v is raw) = raw_nesting-le type b v raw

  -- and a payload one byte less
  pub raw_nesting-le : (type : AMQPType) (b : List ℕ) (v : Tree) (p : Raw type b v) → 5 * raw_nesting type b v p ≤ suc (length b)
  raw_nesting-le _ _ _ (raw_fixed type f b is wide) = omega arith
  raw_nesting-le _ _ _ (raw_short s is) = omega arith
  raw_nesting-le _ _ _ (raw_long s fits) = omega arith
  raw_nesting-le _ _ _ (raw_octets s fits) = omega arith
  raw_nesting-le _ _ _ (raw_array body vs fits entries) = omega (arith, body_nesting-le body vs entries)
  raw_nesting-le _ _ _ (raw_table body ps es fits entries mean) = omega (arith, pairs_nesting-le body ps entries)

  -- a body nests no deeper than one of its values
  pub body_nesting-le : (body : List ℕ) (vs : Trees) (p : ArrayBody body vs) → 5 * body_nesting body vs p ≤ length body
  body_nesting-le _ _ no_values = omega arith
  body_nesting-le _ _ (value w rest v vs first others) =
      omega (arith, length-append w rest, nesting-le w v first, body_nesting-le rest vs others)

  -- and pairs no deeper than one of their values
  pub pairs_nesting-le : (body : List ℕ) (ps : Entries) (p : TableBody body ps) → 5 * pairs_nesting body ps p ≤ length body
  pairs_nesting-le _ _ no_pairs = omega arith
  pairs_nesting-le _ _ (pair k w rest v ps key first others) =
      omega (arith, length-append k (w ++ rest), length-append w rest, nesting-le w v first, pairs_nesting-le rest ps others)

mutual
  -- an encoding within a depth is one
  pub wire_of : (d : ℕ) (w : List ℕ) (v : Tree) → WireWithin d w v → Wire w v
  wire_of _ _ _ (within_wire d c type b v k p) = wire c type b v k (raw_of d type b v p)

  pub raw_of : (d : ℕ) (type : AMQPType) (b : List ℕ) (v : Tree) → RawWithin d type b v → Raw type b v
  raw_of _ _ _ _ (within_plain d type b v no_array no_table p) = p
  raw_of _ _ _ _ (within_array d body vs fits all) = raw_array body vs fits (body_of d body vs all)
  raw_of _ _ _ _ (within_table d body ps es fits all mean) = raw_table body ps es fits (pairs_of d body ps all) mean

  pub body_of : (d : ℕ) (body : List ℕ) (vs : Trees) → BodyWithin d body vs → ArrayBody body vs
  body_of _ _ _ (within_no_values d) = no_values
  body_of _ _ _ (within_value d w rest v vs p all) = value w rest v vs (wire_of d w v p) (body_of d rest vs all)

  pub pairs_of : (d : ℕ) (body : List ℕ) (ps : Entries) → PairsWithin d body ps → TableBody body ps
  pairs_of _ _ _ (within_no_pairs d) = no_pairs
  pairs_of _ _ _ (within_pair d k w rest v ps key p all) = pair k w rest v ps key (wire_of d w v p) (pairs_of d rest ps all)

-- no payload of fixed width is a container
pub fixed_within : (d : ℕ) (type : AMQPType) (f : Layout) (b : List ℕ) → fixed type ≡ Some f → length b ≡ f.width → RawWithin d type b (scalar (f.denotes b))
fixed_within d type f b row wide =
    within_plain d type b (scalar (f.denotes b)) (λ e. let no : None ≡ Some f = ap fixed (sym e) ∙ row in cc) (λ e. let no : None ≡ Some f = ap fixed (sym e) ∙ row in cc)
    (raw_fixed type f b row wide)

mutual
  -- an encoding that nests no deeper is one within the depth
  pub wire_within : (d : ℕ) (w : List ℕ) (v : Tree) (p : Wire w v) → nesting w v p ≤ d → WireWithin d w v
  wire_within d _ _ (wire c type b v k p) le = within_wire d c type b v k (raw_within d type b v p le)

  pub raw_within : (d : ℕ) (type : AMQPType) (b : List ℕ) (v : Tree) (p : Raw type b v) → raw_nesting type b v p ≤ d → RawWithin d type b v
  raw_within d _ _ _ (raw_fixed type f b row wide) le = fixed_within d type f b row wide
  raw_within d _ _ _ (raw_short s is) le = within_plain d amqp.ShortString (short_field s) (short s) (λ e. cc) (λ e. cc) (raw_short s is)
  raw_within d _ _ _ (raw_long s fits) le = within_plain d amqp.LongString (long_field s) (long s) (λ e. cc) (λ e. cc) (raw_long s fits)
  raw_within d _ _ _ (raw_octets s fits) le = within_plain d amqp.ByteArray (long_field s) (octets s) (λ e. cc) (λ e. cc) (raw_octets s fits)
  raw_within zero _ _ _ (raw_array body vs fits all) le = absurd (omega arith)
  raw_within zero _ _ _ (raw_table body ps es fits all mean) le = absurd (omega arith)
  raw_within (suc d) _ _ _ (raw_array body vs fits all) le = within_array d body vs fits (body_within d body vs all (omega arith))
  raw_within (suc d) _ _ _ (raw_table body ps es fits all mean) le = within_table d body ps es fits (pairs_within d body ps all (omega arith)) mean

  pub body_within : (d : ℕ) (body : List ℕ) (vs : Trees) (p : ArrayBody body vs) → body_nesting body vs p ≤ d → BodyWithin d body vs
  body_within d _ _ no_values le = within_no_values d
  body_within d _ _ (value w rest v vs p all) le = within_value d w rest v vs (wire_within d w v p (omega arith)) (body_within d rest vs all (omega arith))

  pub pairs_within : (d : ℕ) (body : List ℕ) (ps : Entries) (p : TableBody body ps) → pairs_nesting body ps p ≤ d → PairsWithin d body ps
  pairs_within d _ _ no_pairs le = within_no_pairs d
  pairs_within d _ _ (pair k w rest v ps key p all) le = within_pair d k w rest v ps key (wire_within d w v p (omega arith)) (pairs_within d rest ps all (omega arith))

-- the greater of two is within a number if both are
max_within : (m n d : ℕ) → m ≤ d → n ≤ d → max m n ≤ d
max_within m n d p q = omega (arith, p, q)

-- what isn't a container nests nothing
plain_nesting : (d : ℕ) (type : AMQPType) (b : List ℕ) (v : Tree) → type ≢ amqp.FieldArray → type ≢ amqp.FieldTable → (p : Raw type b v) → raw_nesting type b v p ≤ d
plain_nesting d _ _ _ no_array no_table (raw_fixed type f b row wide) = omega arith
plain_nesting d _ _ _ no_array no_table (raw_short s is) = omega arith
plain_nesting d _ _ _ no_array no_table (raw_long s fits) = omega arith
plain_nesting d _ _ _ no_array no_table (raw_octets s fits) = omega arith
plain_nesting d _ _ _ no_array no_table (raw_array body vs fits all) = absurd (no_array refl)
plain_nesting d _ _ _ no_array no_table (raw_table body ps es fits all mean) = absurd (no_table refl)

mutual
  unfolding wire_of

  -- and one within a depth nests no deeper
  pub nesting_within : (d : ℕ) (w : List ℕ) (v : Tree) (q : WireWithin d w v) → nesting w v (wire_of d w v q) ≤ d
  nesting_within _ _ _ (within_wire d c type b v k p) = raw_nesting_within d type b v p

  pub raw_nesting_within : (d : ℕ) (type : AMQPType) (b : List ℕ) (v : Tree) (q : RawWithin d type b v) → raw_nesting type b v (raw_of d type b v q) ≤ d
  raw_nesting_within _ _ _ _ (within_plain d type b v no_array no_table p) = plain_nesting d type b v no_array no_table p
  raw_nesting_within _ _ _ _ (within_array d body vs fits all) = omega (arith, body_nesting_within d body vs all)
  raw_nesting_within _ _ _ _ (within_table d body ps es fits all mean) = omega (arith, pairs_nesting_within d body ps all)

  pub body_nesting_within : (d : ℕ) (body : List ℕ) (vs : Trees) (q : BodyWithin d body vs) → body_nesting body vs (body_of d body vs q) ≤ d
  body_nesting_within _ _ _ (within_no_values d) = omega arith
  body_nesting_within _ _ _ (within_value d w rest v vs p all) = max_within _ _ d (nesting_within d w v p) (body_nesting_within d rest vs all)

  pub pairs_nesting_within : (d : ℕ) (body : List ℕ) (ps : Entries) (q : PairsWithin d body ps) → pairs_nesting body ps (pairs_of d body ps q) ≤ d
  pairs_nesting_within _ _ _ (within_no_pairs d) = omega arith
  pairs_nesting_within _ _ _ (within_pair d k w rest v ps key p all) = max_within _ _ d (nesting_within d w v p) (pairs_nesting_within d rest ps all)

-- an encoding within a depth is one that nests no deeper
pub within_is_nesting : (d : ℕ) (w : List ℕ) (v : Tree) → WireWithin d w v ↔ ((p : Wire w v) × (nesting w v p ≤ d))
within_is_nesting d w v = (λ q. (wire_of d w v q, nesting_within d w v q), λ p. wire_within d w v p.0 p.1)
