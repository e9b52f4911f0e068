-- The lemmas on reading that proofs of other crates may cite. Each is proved in the file that its
-- line names.

-- what asks for more bytes: which, and how many its header counts at most
pub use Rattle.amq_protocol_types.proofs.MissingBytes.{more_wanted, wanted_more, lacks_within, wanted_within, kept_within}
-- a value within a depth has at most as many bytes as its header counts
pub use Rattle.amq_protocol_types.proofs.LimitLaws.{wire_extent}
-- when the bytes of a value are all there
pub use Rattle.amq_protocol_types.proofs.Extents.{found_all, failed_all, whole_wants_none}
-- the values that bytes begin with
pub use Rattle.amq_protocol_types.proofs.StreamLaws.{found_begins, begins_found, begins_after}
-- what is ASCII is UTF-8
pub use Rattle.amq_protocol_types.proofs.Frames.{ascii_is_utf8}
-- what an error of one reading means for another
pub use Rattle.amq_protocol_types.proofs.Refusals.{IsRefusal-weaker, no_type_by, no_type_outcome, unknown_within}
-- payloads: of types of fixed width, and of a container once its body is read
pub use Rattle.amq_protocol_types.proofs.Payloads.{unsigned_outcome, void_found, IsPlainPayload, plain_found}
pub use Rattle.amq_protocol_types.proofs.Frames.{long_found, octets_found, array_found, array_refused, array_too_deep, table_found, table_refused, table_too_deep}
-- the bodies of containers, a value or a pair at a time
pub use Rattle.amq_protocol_types.proofs.ArrayBodies.{ArrayBodyRead, ArrayBodyRead-start, ArrayBodyRead-step, ArrayBodyRead-end, ArrayBodyRead-refused, rest_shorter}
pub use Rattle.amq_protocol_types.proofs.TableBodies.{TableBodyRead, TableBodyRead-start, TableBodyRead-step, TableBodyRead-end, TableBodyRead-bad_key, TableBodyRead-bad_value, key_shorter}
