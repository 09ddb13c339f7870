-- Document 01, "Message header and PCD commands", and 000's tables of the commands' bodies: the request that each body asks for, or its refusal.
use Rattle.std.specs.Prelude.{ℕ, not, List, length, get_or, ltb, eqb}
use Rattle.octets.specs.Octets.{number_at}
use Rattle.refusal.specs.Rules.{◌when◌else◌}
use Rattle.refusal.specs.Steps.{Reply, reply}
use Rattle.message_header.specs.declared.Command.{Command}
use Rattle.message_header.specs.declared.Command.TheVariants.{GetPcdId, PreparePcd, UpdatePcd, ActivatePcd}
use Rattle.command_bodies.specs.declared.Request.{Request}
use Rattle.command_bodies.specs.declared.Request.TheVariants.{GetId, Prepare, Update, Activate}

-- an identifier that may be left out, which counts as 0 then: "empty or one byte 0x00 (0x01, platform id, is 11; another byte 5; longer 2)". A body that is
-- longer is 2 whatever its bytes, so that no body is both 11 and 2
abbrev pub identifier_number : List ℕ → ℕ
identifier_number body =
    2 when ltb 1 (length body) else
    11 when eqb (get_or body 0 0) 0x01 else
    5 when ltb 0x01 (get_or body 0 0) else
    0

-- a body of n bytes: "Other lengths are 2"
abbrev pub exact_number : ℕ → List ℕ → ℕ
exact_number n body =
    2 when not (eqb (length body) n) else
    0

-- "one or more"
abbrev pub some_number : List ℕ → ℕ
some_number body =
    2 when eqb (length body) 0 else
    0

-- the one table
unfoldable pub request_of : Command → List ℕ → Reply Request
-- 000: "1 (optional): Identifier"
request_of GetPcdId body = reply (identifier_number body) GetId
-- 000: "1:4: Total size"
request_of PreparePcd body = reply (exact_number 4 body) (Prepare (number_at 4 body 0))
-- 000: "1:N: PCD Payload"
request_of UpdatePcd body = reply (some_number body) Update
-- no body
request_of ActivatePcd body = reply (exact_number 0 body) Activate
