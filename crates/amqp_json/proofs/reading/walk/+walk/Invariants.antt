-- Of the loops in `put_items` and `put_pairs`: what is put, with what is left, is the container's
-- body. The depth decreases in calls, and the number of tokens in the loops.
use Rattle.std.proofs.Common.{◌+◌, ◌*◌, ◌≤◌, ◌∷◌, length, option_map}
use Rattle.amqp_json.specs.reading.Puts.{next_token}
use Rattle.amqp_json.proofs.PutEncodings.{ItemsLeft, PairsLeft}
use Rattle.amqp_json.proofs.reading.walk.+walk.Given as goal

abbrev pub decreases-put_value : goal.decreases-put_value
decreases-put_value l = 4 * l.depth

abbrev pub decreases-put_items : goal.decreases-put_items
decreases-put_items l = 4 * l.depth + 1

abbrev pub decreases-put_pairs : goal.decreases-put_pairs
decreases-put_pairs l = 4 * l.depth + 1

abbrev pub decreases-put_array : goal.decreases-put_array
decreases-put_array l = 4 * l.depth + 2

abbrev pub decreases-put_object : goal.decreases-put_object
decreases-put_object l = 4 * l.depth + 2

-- the values before are put, and with those that are left they are the array's
abbrev pub invariant-put_items-items : goal.invariant-put_items-items
invariant-put_items-items l = ItemsLeft l.depth l.initial.reader l.reader l.initial.out.items l.out.items × (length l.reader ≤ length l.initial.reader)

abbrev pub decreases-put_items-items : goal.decreases-put_items-items
decreases-put_items-items l = length l.reader

-- the pairs before are put, and with those that are left they are the table's
abbrev pub invariant-put_pairs-pairs : goal.invariant-put_pairs-pairs
invariant-put_pairs-pairs l =
    PairsLeft l.fn.depth (next_token (option_map (λ s. s.now) l.fn.first) ∷ l.fn.reader) (option_map (λ s. s.now) l.next) l.reader l.fn.out.items l.out.items
    × (length l.reader ≤ length l.fn.reader)

abbrev pub decreases-put_pairs-pairs : goal.decreases-put_pairs-pairs
decreases-put_pairs-pairs l = length l.reader
