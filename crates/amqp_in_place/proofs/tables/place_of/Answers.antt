-- `place_of`: in a body, where the search ends the encoding at the key begins, or none is there.
use Rattle.std.proofs.Math.Logic.{∥∥₁_elim}
use Rattle.amqp_value_core.specs.Grammar.{short_field}
use Rattle.amqp_in_place.specs.Bodies.{HasPairs}
use Rattle.amqp_in_place.specs.Searches.{HasPair, is_first}
use Rattle.amqp_in_place.specs.Encoded.{encoded_of}
use Rattle.amqp_in_place.proofs.Reading.{no_prop}
use Rattle.amqp_in_place.proofs.Searches.{one_pair, pair_has, begins, place_left}
use Rattle.amqp_in_place.proofs.tables.place_of.Goals as goal

pub unreachable-requires : goal.unreachable-requires
unreachable-requires c =
    let none = rw c.is_first.ensures at c.in_default.ensures in
    ∥∥₁_elim c.requires no_prop (λ (x : HasPairs c.args.pairs.now). none _ (pair_has c.args.of_equal c.args.key.now c.args.pairs.now x.0 x.1))

pub returns-clause-found : goal.returns-clause-found
returns-clause-found c = λ ps p.
    let of = c.args.of_equal in
    let k = c.args.key.now in
    let s = c.args.pairs.now in
    begins (HasPair (is_first of) k s) (short_field k) s (encoded_of of k s ps p) c.in-Ok.place (one_pair (is_first of) k s) (pair_has of k s ps p) (rw c.is_first.ensures at c.in-Ok.ensures)

pub returns-clause-left : goal.returns-clause-left
returns-clause-left c = place_left (HasPair c.is_first.result c.args.key.now c.args.pairs.now) (short_field c.args.key.now) c.args.pairs.now c.in-Ok.place c.in-Ok.ensures
