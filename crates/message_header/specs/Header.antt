-- Document 01, "Message header and PCD commands", and document 000, "Attestation Protocol Format": the header's fields, counted from the top bit of the
-- first byte, and the command that a message names.
use Rattle.std.specs.Prelude.{ℕ, ◌-◌, ◌/◌, ◌%◌, ◌^◌, Bool, not, cond, List, [], ◌∷◌, length, get_or, drop, ltb, eqb}
use Rattle.laws.specs.Tests.{any}
use Rattle.octets.specs.Octets.{number_at}
use Rattle.refusal.specs.Rules.{◌when◌else◌, accepted◌then◌else◌}
use Rattle.refusal.specs.Steps.{Reply, reply, refused_by}
use Rattle.message_header.specs.declared.Command.{Command}
use Rattle.message_header.specs.declared.Command.TheVariants.{GetPcdId, PreparePcd, UpdatePcd, ActivatePcd}

-- bit k of a byte, "counted from the top"
abbrev pub is_set : ℕ → ℕ → Bool
is_set k byte = eqb (byte / 2 ^ (7 - k) % 2) 1

abbrev pub header_length : ℕ
header_length = 5

-- ---- the fields of a message m

-- "The first byte's top bit is the integrity check flag"; behind it the message type
abbrev pub integrity_flag : List ℕ → Bool
integrity_flag m = is_set 0 (get_or m 0 0)

abbrev pub message_type : List ℕ → ℕ
message_type m = get_or m 0 0 % 2 ^ 7

abbrev pub vendor : List ℕ → ℕ
vendor m = number_at 2 m 1

-- "In byte four, counted from the top: request type, reserved, crypt, five reserved bits"
abbrev pub flags : List ℕ → ℕ
flags m = get_or m 3 0

abbrev pub request_type : ℕ → Bool
request_type byte = is_set 0 byte

abbrev pub crypt : ℕ → Bool
crypt byte = is_set 2 byte

abbrev pub reserved_set : ℕ → Bool
reserved_set byte = any (is_set 1 byte ∷ is_set 3 byte ∷ is_set 4 byte ∷ is_set 5 byte ∷ is_set 6 byte ∷ is_set 7 byte ∷ [])

abbrev pub command_byte : List ℕ → ℕ
command_byte m = get_or m 4 0

abbrev pub body_of : List ℕ → List ℕ
body_of m = drop header_length m

-- ---- document 000's command table: the commands that are offered, each with its byte

pub record Row : Type 0 where
  pub byte : ℕ
  pub command : Command

abbrev pub row : ℕ → Command → Row
row byte command = record { byte = byte; command = command }

abbrev pub offered : List Row
offered =
    row 0x62 GetPcdId
    ∷ row 0x63 PreparePcd
    ∷ row 0x64 UpdatePcd
    ∷ row 0x65 ActivatePcd
    ∷ []

-- the command of a byte in a table; "Refusal 11: .. a command other than the four"
abbrev pub lookup : List Row → ℕ → Reply Command
lookup [] byte = refused_by 11
lookup (r ∷ rs) byte = cond (eqb byte r.byte) (reply 0 r.command) (lookup rs byte)

-- "A message begins 7e 14 14": the type, with the integrity check flag clear, and the vendor; responses are written with it
abbrev pub opening : List ℕ
opening = 0x7e ∷ 0x14 ∷ 0x14 ∷ []

-- ---- the verdict on a header

-- "Refusal 1: under five bytes; another type or vendor; integrity flag set; a reserved bit set."
unfoldable pub foreign : List ℕ → Bool
foreign m =
    any (
    ltb (length m) header_length
    ∷ not (eqb (message_type m) 0x7e)
    ∷ not (eqb (vendor m) 0x1414)
    ∷ integrity_flag m
    ∷ reserved_set (flags m)
    ∷ [])

-- "Refusal 11: request type or crypt set"
unfoldable pub unoffered_kind : List ℕ → Bool
unoffered_kind m = any (request_type (flags m) ∷ crypt (flags m) ∷ [])

abbrev pub flags_number : List ℕ → ℕ
flags_number m =
    1 when foreign m else
    11 when unoffered_kind m else
    0

-- the command that a message's header names, or its refusal
unfoldable pub command_of : List ℕ → Reply Command
command_of m = accepted flags_number m then lookup offered (command_byte m) else refused_by (flags_number m)
