-- What lists of slot calls lead to, from an opening: stated once, for every magic number.
use Rattle.std.specs.Prelude.{◌≡◌, ℕ, ◌<◌, ◌≤◌, Bool, false, List, [], ◌∷◌, ◌++◌, length, ◌≢◌}
use Rattle.refusal.specs.Rules.{accepted◌then◌else◌}
use Rattle.refusal.specs.Steps.{Outcome, Keeps}
use Rattle.slot_state.specs.State.{buffer_length}
use Rattle.manifest_slot.specs.declared.Role.{Role}
use Rattle.manifest_slot.specs.Slot.{unsound, Held}
use Rattle.manifest_slot.specs.Calls.{open_step, prepare_step, update_step, activate_step, read_step}

-- a call, with what it is given besides
pub data Call : Type 0 where
  prepare : ℕ → Call
  update : List ℕ → Call
  activate : Bool → Call

-- what a call answers and leaves, by the definitions that the functions' contracts cite
abbrev pub step : Call → Held → Outcome Held
step (prepare total) h = prepare_step total h
step (update payload) h = update_step payload h
step (activate good) h = activate_step good h

-- what a list of calls leaves, each given what those before it left
unfoldable pub after_all : List Call → Held → Held
after_all [] h = h
after_all (c ∷ cs) h = after_all cs (step c h).after

-- ---- what the accepted calls brought: no state and no buffer is looked at, only the calls and their numbers

pub record Brought : Type 0 where
  -- the payloads of the updates since the last prepare or activate, in order
  pub pending : List ℕ
  -- those that the last accepted activate made active
  pub active : List ℕ

abbrev pub brings : Call → Brought → Brought
brings (prepare total) b = record { pending = []; active = b.active }
brings (update payload) b = record { pending = b.pending ++ payload; active = b.active }
brings (activate good) b = record { pending = []; active = b.pending }

-- a refused call brings nothing
unfoldable pub brought_by : List Call → Held → Brought → Brought
brought_by [] h b = b
brought_by (c ∷ cs) h b = brought_by cs (step c h).after (accepted (step c h).number then brings c b else b)

-- ---- the claims

-- what a call finds within the rules: both buffers' lengths and a sound state
pub record Sound (h : Held) : Type 0 where
  pub pending : length h.pending ≡ buffer_length
  pub active : length h.active ≡ buffer_length
  pub slot : unsound h.slot ≡ false

pub record SlotClaim : Type 0 where
  -- a refused call changes no state and no buffer
  pub kept : (c : Call) (h : Held) → Keeps h (step c h)
  -- a sound slot stays sound
  pub stays : (c : Call) (h : Held) → Sound h → Sound (step c h).after
  -- and keeps the magic number it was opened with
  pub magic : (c : Call) (h : Held) → (step c h).after.slot.magic ≡ h.slot.magic
  -- while a manifest is active, one stays active and its id never falls
  pub forward : (c : Call) (h : Held) → (h.slot.active.length ≢ 0)
      → ((step c h).after.slot.active.length ≢ 0) × (h.slot.active.id.0 ≤ (step c h).after.slot.active.id.0)
  -- "an id not above its id is 9": an accepted activate over an active manifest has an id above it
  pub above : (good : Bool) (h : Held) → (h.slot.active.length ≢ 0) → (step (activate good) h).number ≡ 0
      → h.slot.active.id.0 < (step (activate good) h).after.slot.active.id.0
  -- and which manifest is active changes with an accepted activate alone: its length, its id and its buffer stay with every other call
  pub alone : (c : Call) (h : Held) → ((good : Bool) → c ≡ activate good → (step c h).number ≢ 0)
      → ((step c h).after.slot.active ≡ h.slot.active) × ((step c h).after.active ≡ h.active)
  -- every list of calls from an accepted opening leaves a sound slot, in which the reader gives back exactly the bytes that the updates brought,
  -- in order, whatever pieces they came in: those of the transfer under way as pending, and those that the last accepted activate took as active
  pub reads : (magic : ℕ) (before : Held) → (open_step magic before).number ≡ 0 → (cs : List Call)
      → let opening = (open_step magic before).after in
      let h = after_all cs opening in
      let b = brought_by cs opening (record { pending = []; active = [] }) in
      Sound h × ((read_step Role.Active h).after ≡ b.active) × ((read_step Role.Pending h).after ≡ b.pending)
