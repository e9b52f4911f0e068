-- `GivesWarnings`: what `amqpv_warn` returns and writes, which looks for what a client or a stream
-- queue may not accept.
use Rattle.std.specs.Prelude.{ℕ, ◌≡◌, ◌<◌, ◌+◌, ◌-◌, ◌^◌, ℤ, min, Bool, true, false, if◌then◌else◌, [], ◌∷◌, length, Option, Some, None, is_some, Result, Ok, Err, MatchResult, ◌⊎◌}
use Rattle.amqp_in_place.specs.declared.rabbitmq.warning.Warned.{Warned}
use Rattle.amqp_in_place.specs.RabbitmqWarnings.{WarningPlace, first_repeated_key, first_key_not_utf8, first_empty_key, first_too_deep, first_decimal, in_untagged, passes_frame, AreInside}
use Rattle.amqp_c.specs.declared.fault.Fault.{Fault}
use Rattle.amqp_c.specs.declared.fault.Fault.TheVariants.{Invalid, NoMemory}
use Rattle.amqp_c.specs.declared.input.Input.{Input}
use Rattle.amqp_c.specs.Inputs.{is_untagged, is_for_streams, has_unknown_flag, encoding}
use Rattle.amqp_c.specs.CallResults.{return_code_of}
use Rattle.amqp_c_alloc.specs.declared.warnings.Warnings.{Warnings}

-- no offset
abbrev pub nowhere : ℕ
nowhere = 2 ^ 64 - 1

abbrev pub offset_of : Option ℕ → ℕ
offset_of (Some n) = n
offset_of None = nowhere

-- 1 if it is so, otherwise 0
abbrev pub one_if : Bool → ℕ
one_if b = if b then 1 else 0

-- how many warnings there are
abbrev pub count_of : Warned → ℕ
count_of w =
    one_if (is_some w.repeated_key) + one_if (is_some w.key_not_utf8) + one_if (is_some w.empty_key) + one_if (is_some w.too_deep)
    + one_if (is_some w.decimal) + one_if (is_some w.nested_header) + one_if w.exceeds_frame

abbrev pub numbered : Warned → Warnings
numbered w = record {
  count = count_of w;
  repeated_key = offset_of w.repeated_key;
  key_not_utf8 = offset_of w.key_not_utf8;
  empty_key = offset_of w.empty_key;
  too_deep = offset_of w.too_deep;
  decimal = offset_of w.decimal;
  nested_header = offset_of w.nested_header;
  reserved = nowhere ∷ nowhere ∷ nowhere ∷ nowhere ∷ [];
  exceeds_frame = one_if w.exceeds_frame;
  reserved_flags = 0 ∷ 0 ∷ 0 ∷ 0 ∷ 0 ∷ 0 ∷ 0 ∷ [];
}

-- without the flag for streams, what concerns only these isn't a warning
abbrev pub asked_for : Input → Warned → Warned
asked_for input w = if is_for_streams input then w else record {
  repeated_key = w.repeated_key;
  key_not_utf8 = w.key_not_utf8;
  empty_key = w.empty_key;
  too_deep = w.too_deep;
  decimal = None;
  nested_header = None;
  exceeds_frame = w.exceeds_frame;
}

-- what is left: the warnings that are asked for, or after a fault what was there
abbrev pub warnings_or_old : Input → Warnings → Result Warned Fault → Warnings
warnings_or_old input old (Ok w) = numbered (asked_for input w)
warnings_or_old input old (Err f) = old

-- the place of the first in the input, of a table without its type tag by its length
abbrev pub place_in : Input → WarningPlace → Option ℕ
place_in input place = if is_untagged input then in_untagged place input.bytes.now else place input.bytes.now

-- these are the first of each, each with fewer bytes before it than the encoding has; deeper than `depth` nothing
-- is looked at
pub record AreFirst (frame_max levels : ℕ) (input : Input) (w : Warned) : Type 0 where
  pub repeated_key : w.repeated_key ≡ place_in input (first_repeated_key input.max_depth)
  pub key_not_utf8 : w.key_not_utf8 ≡ place_in input (first_key_not_utf8 input.max_depth)
  pub empty_key : w.empty_key ≡ place_in input (first_empty_key input.max_depth)
  pub too_deep : w.too_deep ≡ place_in input (first_too_deep (min levels input.max_depth))
  pub decimal : w.decimal ≡ place_in input (first_decimal input.max_depth)
  pub nested_header : w.nested_header ≡ place_in input (first_too_deep (min 1 input.max_depth))
  pub exceeds_frame : w.exceeds_frame ≡ passes_frame frame_max (encoding input)
  pub inside : AreInside (length (encoding input)) w

-- memory runs out only for more bytes than the type tag and a length
abbrev pub CanRunOut : Input → Type 0
CanRunOut input = 5 < length (encoding input)

-- a fault is right: a flag is unknown, or memory ran out
abbrev pub IsWarningFault : Input → Fault → Type 0
IsWarningFault input f = ((has_unknown_flag input ≡ true) × (f ≡ Invalid)) ⊎ ((has_unknown_flag input ≡ false) × (f ≡ NoMemory) × CanRunOut input)

abbrev pub IsFoundBy : ℕ → ℕ → Input → Result Warned Fault → Type 0
IsFoundBy frame_max levels input found = MatchResult found (λ w. (has_unknown_flag input ≡ false) × AreFirst frame_max levels input w) (IsWarningFault input)

-- the warnings that are asked for are left, or after a fault what was there
pub record GivesWarnings (frame_max levels : ℕ) (input : Input) (old : Warnings) (code : ℤ) (new : Warnings) : Type 0 where
  pub found : Result Warned Fault
  pub right : IsFoundBy frame_max levels input found
  pub returned : code ≡ return_code_of found
  pub left : new ≡ warnings_or_old input old found
