-- Reading values, payloads, arrays and tables (the cycle `parser`): a value has the outcome of its
-- payload, and a container is read if all its entries are.
use Rattle.std.proofs.Common.{◌≡◌, [], ◌∷◌, ◌++◌, sym, ap, subst, rules, arith, map}
use Rattle.std.specs.Int.{w8, w16, w32, w64, cast_signed, cast_unsigned}
use Rattle.std.proofs.lemmas.List.{map_push}
use Rattle.std.proofs.lemmas.Result.{err_from_is_err_and}
use Rattle.amqp_value_core.specs.declared.types.amqp_type.AMQPType.TheVariants as amqp
use Rattle.amqp_value_core.specs.declared.value.AMQPValue.{the_lemmas}
use Rattle.amqp_value_core.specs.declared.value.AMQPValue.TheVariants.{FieldArray, FieldTable}
use Rattle.amqp_value_core.specs.declared.value.AMQPValue.TheVariants as value
use Rattle.amqp_value_core.specs.Values.{Tree, scalar, void, array, table, no_entries}
use Rattle.amqp_value_core.specs.Maps.{insert}
use Rattle.amqp_value_core.specs.View.{view}
use Rattle.amqp_value_core.specs.Containers.{array_items, array_view, entries, table_view}
use Rattle.amqp_value_core.specs.Outcomes.{found, RawOutcome}
use Rattle.amq_protocol_types.specs.parsing.Bodies.{kept}
use Rattle.amq_protocol_types.proofs.ArrayBodies.{ArrayBodyRead-start, ArrayBodyRead-step, ArrayBodyRead-end, ArrayBodyRead-refused, rest_shorter}
use Rattle.amq_protocol_types.proofs.TableBodies.{TableBodyRead-start, TableBodyRead-step, TableBodyRead-end, TableBodyRead-bad_key, TableBodyRead-bad_value, key_shorter}
use Rattle.amq_protocol_types.proofs.Refusals.{no_type_refused}
use Rattle.amq_protocol_types.proofs.Payloads.{plain_found, plain_arm, unsigned_refuses, unsigned_outcome, void_found, view-Void}
use Rattle.amq_protocol_types.proofs.Frames.{array_found, array_refused, array_too_deep, table_found, table_refused, table_too_deep}
use Rattle.amqp_value_core.specs.Nesting.{RawOutcomeWithin}
use Rattle.amq_protocol_types.proofs.TaggedValues.{typed_result}
use Rattle.amq_protocol_types.proofs.parsing.values.+parser.Goals as goal

pub parse_array_body-returns-in-Err : goal.parse_array_body-returns-in-Err
parse_array_body-returns-in-Err g t c =
    rw c.inside.ensures
    (ArrayBodyRead-refused c.args.depth _ _ (g.I.ParsableInput.bytes c.entries.rest) c.in-Err.e c.entries.invariant (omega arith) c.in-Err.ensures)

pub parse_array_body-entries-smaller : goal.parse_array_body-entries-smaller
parse_array_body-entries-smaller g t c =
    rest_shorter c.args.depth (g.I.ParsableInput.bytes c.entries.rest) (view c.in-Ok.read.1) (g.I.ParsableInput.bytes c.in-Ok.read.0) c.in-Ok.ensures

pub parse_array_body-entries-preserved : goal.parse_array_body-entries-preserved
parse_array_body-entries-preserved g t c =
    let grown : array_items c.push.new.self ≡ array_items c.entries.array ++ c.in-Ok.read.1 ∷ [] = search rules in
    rw (grown, map_push)
    (ArrayBodyRead-step c.args.depth _ _ (g.I.ParsableInput.bytes c.entries.rest) (view c.in-Ok.read.1) _ c.entries.invariant c.in-Ok.ensures)

pub parse_array_body-returns : goal.parse_array_body-returns
parse_array_body-returns g t c =
    ArrayBodyRead-end c.args.depth (g.I.ParsableInput.bytes c.args.body) (map view (array_items c.entries.array)) (g.I.ParsableInput.bytes c.entries.rest) c.entries.invariant (omega arith)

pub parse_table_body-returns-in-Err : goal.parse_table_body-returns-in-Err
parse_table_body-returns-in-Err g t c =
    rw c.inside.ensures
    (TableBodyRead-bad_key c.args.depth _ (kept c.pairs.pairs) (g.I.ParsableInput.bytes c.pairs.rest) c.in-Err.e c.pairs.invariant (omega arith) c.in-Err.ensures)

pub parse_table_body-returns-in-Err-value_within : goal.parse_table_body-returns-in-Err-value_within
parse_table_body-returns-in-Err-value_within g t c =
    rw c.inside-in-Err-value_within.ensures
    (TableBodyRead-bad_value c.args.depth _ (kept c.pairs.pairs) (g.I.ParsableInput.bytes c.pairs.rest) c.in-Ok.read.1 (g.I.ParsableInput.bytes c.in-Ok.read.0) c.in-Err-value_within.e
    c.pairs.invariant c.in-Ok.ensures c.in-Err-value_within.ensures)

pub parse_table_body-pairs-smaller : goal.parse_table_body-pairs-smaller
parse_table_body-pairs-smaller g t c =
    let rest = g.I.ParsableInput.bytes c.pairs.rest in
    let after_key = g.I.ParsableInput.bytes c.in-Ok.read.0 in
    let after = g.I.ParsableInput.bytes c.in-Ok-value_within.read.0 in
    omega (arith, key_shorter rest c.in-Ok.read.1 after_key c.in-Ok.ensures, rest_shorter c.args.depth after_key (view c.in-Ok-value_within.read.1) after c.in-Ok-value_within.ensures)

pub parse_table_body-pairs-preserved : goal.parse_table_body-pairs-preserved
parse_table_body-pairs-preserved g t c =
    let grown : kept c.push.new.self ≡ insert c.in-Ok.read.1 (view c.in-Ok-value_within.read.1) (kept c.pairs.pairs) = search rules in
    rw grown
    (TableBodyRead-step c.args.depth _ (kept c.pairs.pairs) (g.I.ParsableInput.bytes c.pairs.rest) c.in-Ok.read.1 (g.I.ParsableInput.bytes c.in-Ok.read.0)
    (view c.in-Ok-value_within.read.1) _ c.pairs.invariant c.in-Ok.ensures c.in-Ok-value_within.ensures)

pub parse_table_body-returns : goal.parse_table_body-returns
parse_table_body-returns g t c =
    rw c.in_ok-into_table.ensures
    (TableBodyRead-end c.args.depth (g.I.ParsableInput.bytes c.args.body) (kept c.pairs.pairs) (g.I.ParsableInput.bytes c.pairs.rest) c.pairs.invariant (omega arith))

pub parse_table_body-returns-then-input_len-eq0 : goal.parse_table_body-returns-then-input_len-eq0
parse_table_body-returns-then-input_len-eq0 g t c =
    let s = g.I.ParsableInput.bytes c.args.body in
    let none : table_view c.new_in.result ≡ no_entries = ap entries c.new_in.ensures in
    rw none (TableBodyRead-end c.args.depth s no_entries s (TableBodyRead-start c.args.depth s) (omega arith))

pub value_within-returns-in_err-i : goal.value_within-returns-in_err-i
value_within-returns-in_err-i g t c =
    let p = err_from_is_err_and c.from_residual.result c.from_residual.ensures.1 in
    rw (p.1, p.2) (no_type_refused c.args.depth (g.I.ParsableInput.bytes c.args.i) c.in_err-i.field-0.0 c.in_err-i.ensures.id)

pub array_within-returns-in_err-array : goal.array_within-returns-in_err-array
array_within-returns-in_err-array g t c =
    let p = err_from_is_err_and c.from_residual-in_err-array.result c.from_residual-in_err-array.ensures.1 in
    rw (p.1, p.2)
    (array_refused c.args.depth (g.I.ParsableInput.bytes c.args.i) (g.I.ParsableInput.bytes c.in_ok-i.body) (g.I.ParsableInput.bytes c.in_ok-i.i) c.in_ok-i.ensures
    c.in_err-array.field-0.0 c.in_err-array.ensures)

pub array_within-returns : goal.array_within-returns
array_within-returns g t c =
    array_found c.args.depth (g.I.ParsableInput.bytes c.args.i) (g.I.ParsableInput.bytes c.in_ok-i.body) (g.I.ParsableInput.bytes c.in_ok-i.i) c.in_ok-i.ensures
    (array_view c.in_ok-array.array) (omega arith) c.in_ok-array.ensures

pub table_within-returns-in_err-table : goal.table_within-returns-in_err-table
table_within-returns-in_err-table g t c =
    let p = err_from_is_err_and c.from_residual-in_err-table.result c.from_residual-in_err-table.ensures.1 in
    rw (p.1, p.2)
    (table_refused c.args.depth (g.I.ParsableInput.bytes c.args.i) (g.I.ParsableInput.bytes c.in_ok-i.body) (g.I.ParsableInput.bytes c.in_ok-i.i) c.in_ok-i.ensures
    c.in_err-table.field-0.0 c.in_err-table.ensures)

pub table_within-returns : goal.table_within-returns
table_within-returns g t c =
    table_found c.args.depth (g.I.ParsableInput.bytes c.args.i) (g.I.ParsableInput.bytes c.in_ok-i.body) (g.I.ParsableInput.bytes c.in_ok-i.i) c.in_ok-i.ensures
    (table_view c.in_ok-table.table) (omega arith) c.in_ok-table.ensures

pub value_within-returns : goal.value_within-returns
value_within-returns g t c =
    typed_result c.args.depth (g.I.ParsableInput.bytes c.args.i) (g.I.ParsableInput.bytes c.in_ok-i.i) c.in_ok-i.amqp_type c.in_ok-i.ensures.id
    g.I.ParsableInput.bytes c.payload_within.result c.payload_within.ensures

pub array_within-returns-then-depth-eq0 : goal.array_within-returns-then-depth-eq0
array_within-returns-then-depth-eq0 g t c =
    rw c.error_of_kind.ensures
    (array_too_deep c.args.depth (g.I.ParsableInput.bytes c.args.i) (g.I.ParsableInput.bytes c.in_ok-i.body) (g.I.ParsableInput.bytes c.in_ok-i.i) c.in_ok-i.ensures c.if-depth-eq0.true)

pub table_within-returns-then-depth-eq0 : goal.table_within-returns-then-depth-eq0
table_within-returns-then-depth-eq0 g t c =
    rw c.error_of_kind.ensures
    (table_too_deep c.args.depth (g.I.ParsableInput.bytes c.args.i) (g.I.ParsableInput.bytes c.in_ok-i.body) (g.I.ParsableInput.bytes c.in_ok-i.i) c.in_ok-i.ensures c.if-depth-eq0.true)

pub parse_array_body-entries-init : goal.parse_array_body-entries-init
parse_array_body-entries-init g t c = rw c.new_in-array.ensures (ArrayBodyRead-start c.args.depth (g.I.ParsableInput.bytes c.args.body))

pub payload_within-returns-in_ok-i-in-FieldArray : goal.payload_within-returns-in_ok-i-in-FieldArray
payload_within-returns-in_ok-i-in-FieldArray g t c =
    let a = c.in_ok-i-in-FieldArray.array in
    let shown : view (FieldArray a) ≡ array (array_view a) = search (rules, the_lemmas) in
    rw (c.in-FieldArray.is, shown) c.in_ok-i-in-FieldArray.ensures

pub payload_within-returns-in_ok-i-in-FieldTable : goal.payload_within-returns-in_ok-i-in-FieldTable
payload_within-returns-in_ok-i-in-FieldTable g t c =
    let a = c.in_ok-i-in-FieldTable.table in
    let shown : view (FieldTable a) ≡ table (table_view a) = search (rules, the_lemmas) in
    rw (c.in-FieldTable.is, shown) c.in_ok-i-in-FieldTable.ensures

pub payload_within-returns-in_ok-i-in-Boolean : goal.payload_within-returns-in_ok-i-in-Boolean
payload_within-returns-in_ok-i-in-Boolean g t c =
    let a = c.in_ok-i-in-Boolean in
    plain_arm c.args.depth amqp.Boolean _ (g.I.ParsableInput.bytes c.args.i) (g.I.ParsableInput.bytes a.i) (view (value.Boolean a.b)) c.in-Boolean.is tt (search (rules, the_lemmas))

pub payload_within-returns-in_ok-i-in-ShortShortInt : goal.payload_within-returns-in_ok-i-in-ShortShortInt
payload_within-returns-in_ok-i-in-ShortShortInt g t c =
    let a = c.in_ok-i-in-ShortShortInt in
    plain_arm c.args.depth amqp.ShortShortInt _ (g.I.ParsableInput.bytes c.args.i) (g.I.ParsableInput.bytes a.i) (view (value.ShortShortInt (cast_signed w8 (cast_unsigned w8 a.n)))) c.in-ShortShortInt.is tt (search (rules, the_lemmas))

pub payload_within-returns-in_ok-i-in-ShortShortUInt : goal.payload_within-returns-in_ok-i-in-ShortShortUInt
payload_within-returns-in_ok-i-in-ShortShortUInt g t c =
    let a = c.in_ok-i-in-ShortShortUInt in
    plain_arm c.args.depth amqp.ShortShortUInt _ (g.I.ParsableInput.bytes c.args.i) (g.I.ParsableInput.bytes a.i) (view (value.ShortShortUInt a.n)) c.in-ShortShortUInt.is tt (search (rules, the_lemmas))

pub payload_within-returns-in_ok-i-in-ShortInt : goal.payload_within-returns-in_ok-i-in-ShortInt
payload_within-returns-in_ok-i-in-ShortInt g t c =
    let a = c.in_ok-i-in-ShortInt in
    plain_arm c.args.depth amqp.ShortInt _ (g.I.ParsableInput.bytes c.args.i) (g.I.ParsableInput.bytes a.i) (view (value.ShortInt (cast_signed w16 (cast_unsigned w16 a.n)))) c.in-ShortInt.is tt (search (rules, the_lemmas))

pub payload_within-returns-in_ok-i-in-ShortUInt : goal.payload_within-returns-in_ok-i-in-ShortUInt
payload_within-returns-in_ok-i-in-ShortUInt g t c =
    let a = c.in_ok-i-in-ShortUInt in
    plain_arm c.args.depth amqp.ShortUInt _ (g.I.ParsableInput.bytes c.args.i) (g.I.ParsableInput.bytes a.i) (view (value.ShortUInt a.n)) c.in-ShortUInt.is tt (search (rules, the_lemmas))

pub payload_within-returns-in_ok-i-in-LongInt : goal.payload_within-returns-in_ok-i-in-LongInt
payload_within-returns-in_ok-i-in-LongInt g t c =
    let a = c.in_ok-i-in-LongInt in
    plain_arm c.args.depth amqp.LongInt _ (g.I.ParsableInput.bytes c.args.i) (g.I.ParsableInput.bytes a.i) (view (value.LongInt (cast_signed w32 (cast_unsigned w32 a.n)))) c.in-LongInt.is tt (search (rules, the_lemmas))

pub payload_within-returns-in_ok-i-in-LongUInt : goal.payload_within-returns-in_ok-i-in-LongUInt
payload_within-returns-in_ok-i-in-LongUInt g t c =
    let a = c.in_ok-i-in-LongUInt in
    plain_arm c.args.depth amqp.LongUInt _ (g.I.ParsableInput.bytes c.args.i) (g.I.ParsableInput.bytes a.i) (view (value.LongUInt a.n)) c.in-LongUInt.is tt (search (rules, the_lemmas))

pub payload_within-returns-in_ok-i-in-LongLongInt : goal.payload_within-returns-in_ok-i-in-LongLongInt
payload_within-returns-in_ok-i-in-LongLongInt g t c =
    let a = c.in_ok-i-in-LongLongInt in
    plain_arm c.args.depth amqp.LongLongInt _ (g.I.ParsableInput.bytes c.args.i) (g.I.ParsableInput.bytes a.i) (view (value.LongLongInt (cast_signed w64 (cast_unsigned w64 a.n)))) c.in-LongLongInt.is tt (search (rules, the_lemmas))

pub payload_within-returns-in_ok-i-in-Float : goal.payload_within-returns-in_ok-i-in-Float
payload_within-returns-in_ok-i-in-Float g t c =
    let a = c.in_ok-i-in-Float in
    plain_arm c.args.depth amqp.Float _ (g.I.ParsableInput.bytes c.args.i) (g.I.ParsableInput.bytes a.i) (view (value.Float a.f)) c.in-Float.is tt (search (rules, the_lemmas))

pub payload_within-returns-in_ok-i-in-Double : goal.payload_within-returns-in_ok-i-in-Double
payload_within-returns-in_ok-i-in-Double g t c =
    let a = c.in_ok-i-in-Double in
    plain_arm c.args.depth amqp.Double _ (g.I.ParsableInput.bytes c.args.i) (g.I.ParsableInput.bytes a.i) (view (value.Double a.f)) c.in-Double.is tt (search (rules, the_lemmas))

pub payload_within-returns-in_ok-i-in-DecimalValue : goal.payload_within-returns-in_ok-i-in-DecimalValue
payload_within-returns-in_ok-i-in-DecimalValue g t c =
    let a = c.in_ok-i-in-DecimalValue in
    plain_arm c.args.depth amqp.DecimalValue _ (g.I.ParsableInput.bytes c.args.i) (g.I.ParsableInput.bytes a.i) (view (value.DecimalValue a.d)) c.in-DecimalValue.is tt (search (rules, the_lemmas))

pub payload_within-returns-in_ok-i-in-LongString : goal.payload_within-returns-in_ok-i-in-LongString
payload_within-returns-in_ok-i-in-LongString g t c =
    let a = c.in_ok-i-in-LongString in
    plain_arm c.args.depth amqp.LongString _ (g.I.ParsableInput.bytes c.args.i) (g.I.ParsableInput.bytes a.i) (view (value.LongString a.s)) c.in-LongString.is tt (search (rules, the_lemmas))

pub payload_within-returns-in_ok-i-in-Timestamp : goal.payload_within-returns-in_ok-i-in-Timestamp
payload_within-returns-in_ok-i-in-Timestamp g t c =
    let a = c.in_ok-i-in-Timestamp in
    plain_arm c.args.depth amqp.Timestamp _ (g.I.ParsableInput.bytes c.args.i) (g.I.ParsableInput.bytes a.i) (view (value.Timestamp a.n)) c.in-Timestamp.is tt (search (rules, the_lemmas))

pub payload_within-returns-in_ok-i-in-ByteArray : goal.payload_within-returns-in_ok-i-in-ByteArray
payload_within-returns-in_ok-i-in-ByteArray g t c =
    let a = c.in_ok-i-in-ByteArray in
    plain_arm c.args.depth amqp.ByteArray _ (g.I.ParsableInput.bytes c.args.i) (g.I.ParsableInput.bytes a.i) (view (value.ByteArray a.bytes)) c.in-ByteArray.is tt (search (rules, the_lemmas))

pub payload_within-returns-in_err-i-in-LongLongUInt : goal.payload_within-returns-in_err-i-in-LongLongUInt
payload_within-returns-in_err-i-in-LongLongUInt g t c =
    let s = g.I.ParsableInput.bytes c.args.i in
    let p = err_from_is_err_and c.from_residual-in_err-i-in-LongLongUInt.result c.from_residual-in_err-i-in-LongLongUInt.ensures.1 in
    rw (p.1, p.2, c.in-LongLongUInt.is)
    (unsigned_refuses c.args.depth s c.in_err-i-in-LongLongUInt.field-0.0 c.in_err-i-in-LongLongUInt.ensures)

pub payload_within-returns-in_ok-i-in-LongLongUInt : goal.payload_within-returns-in_ok-i-in-LongLongUInt
payload_within-returns-in_ok-i-in-LongLongUInt g t c =
    let a = c.in_ok-i-in-LongLongUInt in
    let s = g.I.ParsableInput.bytes c.args.i in
    let v = view (value.LongLongInt (cast_signed w64 (cast_unsigned w64 a.n))) in
    let rest = g.I.ParsableInput.bytes a.i in
    let x : RawOutcome amqp.LongLongInt s (found v rest) = search (rules, the_lemmas) in
    rw c.in-LongLongUInt.is (plain_found c.args.depth amqp.LongLongUInt s rest v tt (unsigned_outcome s (found v rest) x))

pub payload_within-returns-in-Void : goal.payload_within-returns-in-Void
payload_within-returns-in-Void g t c =
    let s = g.I.ParsableInput.bytes c.args.i in
    rw c.in-Void.is
    (subst (λ (v : Tree). RawOutcomeWithin c.args.depth amqp.Void s (found v s)) (sym view-Void) (plain_found c.args.depth amqp.Void s s (scalar void) tt (void_found s)))
