-- What the command call finds and leaves in C: a slot with its buffers, the response buffer, and the number behind `written` (include/cerberus.h,
-- cerberus_command).
use Rattle.std.specs.Prelude.{ℕ, List}
use Rattle.refusal.specs.Steps.{Outcome, decided}
use Rattle.requests.specs.Requests.{Served}
use Rattle.c_encoding.specs.Slots.{CSlot, held_in, kept_in}

pub record CServed : Type 0 where
  pub slot : CSlot
  pub response : List ℕ
  pub written : ℕ

abbrev pub c_served : CSlot → List ℕ → ℕ → CServed
c_served slot response written = record { slot = slot; response = response; written = written }

-- nothing is written yet, whatever stands behind the pointer
abbrev pub served_in : CServed → Served
served_in c = record { held = held_in c.slot; response = c.response; written = 0 }

-- a refused command writes to no pointer
abbrev pub served_step : (Served → Outcome Served) → CServed → Outcome CServed
served_step step c =
    let o = step (served_in c) in
    decided o.number c (c_served (kept_in o.after.held) o.after.response o.after.written)
