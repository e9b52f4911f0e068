-- `first` returns the entry of the value at the start, or a fault of its header: a type with
-- content has that after a length, and `read_fixed` reads any other.
use Rattle.std.proofs.Common.{◌≡◌, ◌+◌, ◌-◌, ℕ, true, false, List, length, refl, sym, ap, ◌∙◌, subst, arith, length-append}
use Rattle.std.proofs.lemmas.Result.{err_from_is_err_and}
use Rattle.amqp_value_core.specs.Bytes.{slice_bytes}
use Rattle.amq_protocol_types.specs.parsing.PayloadResults.{IsType, IsNoType}
use Rattle.amq_protocol_types.specs.parsing.ParseResults.{IsRefusal}
use Rattle.amqp_value_core.specs.Grammar.{long_field}
use Rattle.amqp_c.specs.CallResults.{header_fault}
use Rattle.amqp_c.specs.declared.entry.Entry.{Entry}
use Rattle.amqp_c.specs.Entries.{has_content}
use Rattle.amqp_c.proofs.FirstEntry.{is_tagged, never_faulty, no_type_fault, cut_fault, scalar_fault, frame_extent, frame_length, found_extent, content_entry, scalar_entry, found_shorter}
use Rattle.amqp_c.proofs.entry.first.Goals as goal

pub returns-in_err-rest-clause-refused : goal.returns-in_err-rest-clause-refused
returns-in_err-rest-clause-refused c =
    let s = c.args.bytes.now in
    let mid = slice_bytes c.in_ok-payload.payload in
    let p = subst (λ (t : List ℕ). IsType t c.in_ok-payload.amqp_type mid) c.new.ensures c.in_ok-payload.ensures.id in
    let r = err_from_is_err_and c.from_residual-in_err-rest.result c.from_residual-in_err-rest.ensures.1 in
    rw (r.1, r.2) (cut_fault s mid c.in_ok-payload.amqp_type p (sym c.has_content.ensures ∙ c.if-has_content.true) c.in_err-rest.field-0.0 c.in_err-rest.ensures)

pub returns-in_err-rest-clause-faithful : goal.returns-in_err-rest-clause-faithful
returns-in_err-rest-clause-faithful c = λ v rest x.
    let s = c.args.bytes.now in
    let mid = slice_bytes c.in_ok-payload.payload in
    let p = subst (λ (t : List ℕ). IsType t c.in_ok-payload.amqp_type mid) c.new.ensures c.in_ok-payload.ensures.id in
    absurd (never_faulty s rest v (header_fault c.in_err-rest.field-0.0) x (cut_fault s mid c.in_ok-payload.amqp_type p (sym c.has_content.ensures ∙ c.if-has_content.true) c.in_err-rest.field-0.0 c.in_err-rest.ensures))

pub returns-then-has_content-clause-faithful : goal.returns-then-has_content-clause-faithful
returns-then-has_content-clause-faithful c = λ v left x.
    let s = c.args.bytes.now in
    let mid = slice_bytes c.in_ok-payload.payload in
    let body = slice_bytes c.in_ok-rest.body in
    let rest = slice_bytes c.in_ok-rest.rest in
    let p = subst (λ (t : List ℕ). IsType t c.in_ok-payload.amqp_type mid) c.new.ensures c.in_ok-payload.ensures.id in
    let f = c.in_ok-rest.ensures in
    let whole : length s - c.input_len.result + length rest ≡ length s =
    omega (arith, ap length p.1, ap length f.framed, length-append (long_field body) rest, c.input_len.ensures.count) in
    let e : Entry = record {
      key = record { offset = 0; length = 0 };
      value = record { offset = 0; length = length s - c.input_len.result };
      content = record { offset = 5; length = c.input_len-then-has_content.result };
      bits = 0;
      tag = c.tag_of-tag.result;
      scale = 0;
    } in
    let is = content_entry s mid body rest c.in_ok-payload.amqp_type p f (sym c.has_content.ensures ∙ c.if-has_content.true) e refl whole refl c.input_len-then-has_content.ensures.count c.tag_of-tag.ensures (refl, refl) v left x in
    (is.0, refl, omega (arith, ap length is.1, whole))

pub returns-then-has_content-clause-at_start : goal.returns-then-has_content-clause-at_start
returns-then-has_content-clause-at_start c =
    let s = c.args.bytes.now in
    let mid = slice_bytes c.in_ok-payload.payload in
    let p = subst (λ (t : List ℕ). IsType t c.in_ok-payload.amqp_type mid) c.new.ensures c.in_ok-payload.ensures.id in
    let body = slice_bytes c.in_ok-rest.body in
    let rest = slice_bytes c.in_ok-rest.rest in
    let has = sym c.has_content.ensures ∙ c.if-has_content.true in
    let e = frame_extent s mid body rest c.in_ok-payload.amqp_type p c.in_ok-rest.ensures has in
    let whole = frame_length s mid body rest c.in_ok-payload.amqp_type p c.in_ok-rest.ensures in
    let size : length s - c.input_len.result ≡ 5 + c.input_len-then-has_content.result = omega (arith, whole, c.input_len.ensures.count, c.input_len-then-has_content.ensures.count) in
    (refl, refl, omega (arith, c.input_len.ensures.count), is_tagged s mid c.in_ok-payload.amqp_type p _ c.tag_of-tag.ensures true has (refl, size, (refl, refl)))

pub returns-in_err-fixed-clause-faithful : goal.returns-in_err-fixed-clause-faithful
returns-in_err-fixed-clause-faithful c = λ v rest x.
    let s = c.args.bytes.now in
    let mid = slice_bytes c.in_ok-payload.payload in
    let p = subst (λ (t : List ℕ). IsType t c.in_ok-payload.amqp_type mid) c.new.ensures c.in_ok-payload.ensures.id in
    let e = c.in_err-fixed.ensures in
    absurd (never_faulty s rest v (header_fault e.0) x (scalar_fault s mid c.in_ok-payload.amqp_type p (sym c.has_content.ensures ∙ c.if-has_content.false) c.in_ok-payload.ensures.read_back e.0 e.2))

pub returns-in_err-fixed-clause-refused : goal.returns-in_err-fixed-clause-refused
returns-in_err-fixed-clause-refused c =
    let s = c.args.bytes.now in
    let mid = slice_bytes c.in_ok-payload.payload in
    let p = subst (λ (t : List ℕ). IsType t c.in_ok-payload.amqp_type mid) c.new.ensures c.in_ok-payload.ensures.id in
    let e = c.in_err-fixed.ensures in
    let r = err_from_is_err_and c.from_residual-in_err-fixed.result c.from_residual-in_err-fixed.ensures.1 in
    rw (r.1, r.2, e.1) (scalar_fault s mid c.in_ok-payload.amqp_type p (sym c.has_content.ensures ∙ c.if-has_content.false) c.in_ok-payload.ensures.read_back e.0 e.2)

pub returns-clause-at_start : goal.returns-clause-at_start
returns-clause-at_start c =
    let s = c.args.bytes.now in
    let mid = slice_bytes c.in_ok-payload.payload in
    let p = subst (λ (t : List ℕ). IsType t c.in_ok-payload.amqp_type mid) c.new.ensures c.in_ok-payload.ensures.id in
    let x = c.in_ok-fixed.ensures in
    let e = found_extent s x.1 x.0 x.2 in
    let plain : has_content c.in_ok-payload.amqp_type ≡ false = sym c.has_content.ensures ∙ c.if-has_content.false in
    (refl, refl, omega (arith, e, x.3), is_tagged s mid c.in_ok-payload.amqp_type p _ c.tag_of-tag.ensures false plain refl)

pub returns-clause-inside : goal.returns-clause-inside
returns-clause-inside c =
    let x = c.in_ok-fixed.ensures in
    let less = found_shorter c.args.bytes.now x.1 x.0 x.2 in
    record { key = omega arith; value = omega (arith, less, x.3); content = omega arith; some = omega (arith, less, x.3) }

pub returns-clause-faithful : goal.returns-clause-faithful
returns-clause-faithful c = λ v left y.
    let s = c.args.bytes.now in
    let mid = slice_bytes c.in_ok-payload.payload in
    let p = subst (λ (t : List ℕ). IsType t c.in_ok-payload.amqp_type mid) c.new.ensures c.in_ok-payload.ensures.id in
    let x = c.in_ok-fixed.ensures in
    let e : Entry = record {
      key = record { offset = 0; length = 0 };
      value = record { offset = 0; length = c.in_ok-fixed.fixed.length };
      content = record { offset = 0; length = 0 };
      bits = c.in_ok-fixed.fixed.bits;
      tag = c.tag_of-tag.result;
      scale = c.in_ok-fixed.fixed.scale;
    } in
    let is = scalar_entry s mid x.1 c.in_ok-payload.amqp_type x.0 p (sym c.has_content.ensures ∙ c.if-has_content.false) c.in_ok-payload.ensures.read_back x.2 e refl x.3 refl c.tag_of-tag.ensures x.4 x.5 v left y in
    (is.0, refl, omega (arith, ap length is.1, x.3))

pub returns-in_err-payload-clause-refused : goal.returns-in_err-payload-clause-refused
returns-in_err-payload-clause-refused c =
    let s = c.args.bytes.now in
    let e = c.in_err-payload.field-0.0 in
    let r = err_from_is_err_and c.from_residual.result c.from_residual.ensures.1 in
    rw (r.1, r.2) (no_type_fault s e (subst (λ (t : List ℕ). IsRefusal (IsNoType t) ⊥ e) c.new.ensures c.in_err-payload.ensures.id))

pub returns-in_err-payload-clause-faithful : goal.returns-in_err-payload-clause-faithful
returns-in_err-payload-clause-faithful c = λ v rest x.
    let s = c.args.bytes.now in
    let e = c.in_err-payload.field-0.0 in
    absurd (never_faulty s rest v (header_fault e) x (no_type_fault s e (subst (λ (t : List ℕ). IsRefusal (IsNoType t) ⊥ e) c.new.ensures c.in_err-payload.ensures.id)))
