-- `TableRef::value_of_pair`: the value that begins where `place_of` says is the pair's: what it
-- means, as it is written, and a view of its encoding.
use Rattle.std.proofs.Common.{List, ℕ, sym, subst}
use Rattle.std.proofs.Math.Logic.{∥∥₁_map}
use Rattle.amqp_value_core.specs.Values.{Entries}
use Rattle.amqp_value_core.specs.Grammar.{TableBody}
use Rattle.amqp_in_place.specs.Bodies.{HasPairs}
use Rattle.amqp_in_place.specs.Encoded.{encoded_of}
use Rattle.amqp_in_place.specs.Walks.{ValueIs}
use Rattle.amqp_in_place.proofs.Lookups.{begins_there, value_found, found_inside, pair_means, pair_is_written, pair_is_view}
use Rattle.amqp_in_place.proofs.refs.TableRef.value_of_pair.Goals as goal

pub place_of-requires : goal.place_of-requires
place_of-requires c = subst (λ (s : List ℕ). ∥ HasPairs s ∥₁) (sym c.as_bytes.ensures) c.args.self.well_formed

pub value_there-requires : goal.value_there-requires
value_there-requires c = begins_there c.place_of.result (∥∥₁_map (subst (λ (s : List ℕ). ∥ HasPairs s ∥₁) (sym c.as_bytes.ensures) c.args.self.well_formed) (λ (x : HasPairs c.as_bytes.result.now). (_, c.place_of.ensures.found x.0 x.1)))

there : (c : goal.After-value_there) → (ps : Entries) (p : TableBody c.as_bytes.result.now ps) → ValueIs (encoded_of c.args.of_equal c.as_bytes-2.result.now c.as_bytes.result.now ps p) c.value_there.result
there c ps p = value_found _ c.place_of.result c.value_there.result (c.place_of.ensures.found ps p) c.value_there.ensures

pub returns-clause-value : goal.returns-clause-value
returns-clause-value c = rw (sym c.as_bytes.ensures, sym c.as_bytes-2.ensures.value) (pair_means c.args.of_equal c.as_bytes.result.now c.as_bytes-2.result.now c.value_there.result (there c))

pub returns-clause-written : goal.returns-clause-written
returns-clause-written c = rw (sym c.as_bytes.ensures, sym c.as_bytes-2.ensures.value) (pair_is_written c.args.of_equal c.as_bytes.result.now c.as_bytes-2.result.now c.value_there.result (there c))

pub returns-clause-view : goal.returns-clause-view
returns-clause-view c = rw (sym c.as_bytes.ensures, sym c.as_bytes-2.ensures.value) (pair_is_view c.args.of_equal c.as_bytes.result.now c.as_bytes-2.result.now c.value_there.result (there c))

pub returns-clause-inside : goal.returns-clause-inside
returns-clause-inside c = rw (sym c.as_bytes.ensures) (found_inside c.as_bytes.result.now c.place_of.result c.value_there.result c.place_of.ensures.left c.value_there.ensures)
