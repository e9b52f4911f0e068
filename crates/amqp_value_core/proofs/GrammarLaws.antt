-- Exports the laws of the grammar, which the modules beside it prove, for proofs of other crates to
-- cite. `src/laws.rt` states most of them.

-- one reading for each list, and bytes after their length
pub use Rattle.amqp_value_core.proofs.Unique.{no_empty_wire, same_large, one_key, one_reading, one_raw_reading, one_body_meaning, one_pairs_meaning}
pub use Rattle.amqp_value_core.proofs.Reading.{one_large}
-- canonical encodings: their length, and that they are encodings
pub use Rattle.amqp_value_core.proofs.Spelling.{size_of_scalar, size_of_array, size_of_table, length_of_payload, text_is_wire, payload_is_raw}
-- outcomes: of a canonical encoding, with more bytes, and that there is one
pub use Rattle.amqp_value_core.proofs.Reading.{reading_back}
pub use Rattle.amqp_value_core.proofs.MoreBytes.{NeedsMoreOr-more, more_bytes, more_raw_bytes}
pub use Rattle.amqp_value_core.proofs.Outcomes.{NeedsMoreOr, PrefixBy, RawPrefix, NeedsMoreOr-weaker, raw_from_cases, raw_to_cases, OutcomeByCases, from_cases, to_cases, one_outcome, one_raw_outcome}
-- the outcome as a function: its cases by what is first
pub use Rattle.amqp_value_core.proofs.Found.{and_others, and_pairs}
-- and that no payload but a short string, an array or a table is malformed
pub use Rattle.amqp_value_core.proofs.Agreement.{never_malformed, outcome_holds, outcome_is, raw_outcome_holds, raw_outcome_is}
-- tables as finite maps, and what pairs mean
pub use Rattle.amqp_value_core.proofs.Tables.{put_found, put_other, key_has_value, last_stays, option_or-assoc, option_or-none, pairs_rise, rising_pairs, same_tables, entries_rise, put_mean, mean_put, rising_mean, of_mean, one_mean}
-- what an insertion changes of a table
pub use Rattle.amqp_value_core.proofs.Insertions.{insert_size, insert_count, insert_depth, insert_entries_fit, insert_fits, insert_readable, insert_entries}
-- what an encoding bounds, what is read from it, and that the canonical one is a shortest
pub use Rattle.amqp_value_core.proofs.Bounds.{bounds, raw_bounds, mean_within}
pub use Rattle.amqp_value_core.proofs.Shortest.{what_is_read, what_raw_reads, read_is_value, raw_value, shortest, same_text_same_value}
-- canonical encodings by their bytes: each is an encoding and, of bytes, `text`
pub use Rattle.amqp_value_core.proofs.Canons.{canon_is_wire, canon_fits, canon_is_text, canonical_wire, canon_rises}
pub use Rattle.amqp_value_core.specs.Canonical.{canon, canon_array, canon_table, canon_value, canon_pair}
pub use Rattle.amqp_value_core.proofs.TextCanon.{text_is_canon, payload_is_canon, is_canonical}
pub use Rattle.amqp_value_core.proofs.TextBytes.{text_bytes, payload_bytes, insert_bytes}
-- the words of the headline
pub use Rattle.amqp_value_core.proofs.Headlines.{found_prefix, bounded_wire, bounded_found, is_shortest, injective}
-- from a payload of the type that a first byte denotes to the value: the outcome, and that it
-- may allocate
pub use Rattle.amqp_value_core.proofs.Outcomes.{raw_to_value, value_to_raw, raw_to_heavy}
-- from what is at the start to the outcome
pub use Rattle.amqp_value_core.proofs.Outcomes.{raw_whole, raw_found, wire_found}
-- bytes after their length: the number is theirs, the length-prefixed field is complete, and as a
-- payload they are an array's body, a table's pairs or a short string
pub use Rattle.amqp_value_core.proofs.Headers.{counted-long_field, lack_of-long_field}
pub use Rattle.amqp_value_core.proofs.Reading.{array_body}
pub use Rattle.amqp_value_core.proofs.Reading.{table_body, short_bytes}
-- reading if containers nest at most that deep
pub use Rattle.amqp_value_core.proofs.Limited.{one_outcome_within, prefix_within, raw_to_value_within, value_to_raw_within, more_bytes_within, raw_whole_within, raw_found_within, wire_found_within, raw_outcome_same, unlimited, raw_unlimited, deep_enough}
pub use Rattle.amqp_value_core.proofs.Reading.{array_body_within, table_body_within}
pub use Rattle.amqp_value_core.proofs.TextDepth.{text_within, text_again, depth_within}
pub use Rattle.amqp_value_core.proofs.Agreement.{within_holds, within_is}
-- how many bytes a header counts, and how many are missing
pub use Rattle.amqp_value_core.proofs.Headers.{first_within, fields_lack_cut, fields_lack_known, frame_lack_cut, frame_lack_known, counted-append, payload_extent-raw, lack-raw, length-wire}
pub use Rattle.amqp_value_core.proofs.Headers.{payload_extent_of, payload_extent_of-whole, payload_extent_of-append}
pub use Rattle.amqp_value_core.proofs.Nests.{nesting-le, body_nesting-le, pairs_nesting-le, wire_of, raw_of, body_of, pairs_of, wire_within, raw_within, body_within, pairs_within}
