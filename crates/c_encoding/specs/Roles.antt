-- The numbers by which C names the role of a manifest (include/cerberus.h, cerberus_slot_manifest): "0 active, 1 pending". Another number is 5.
use Rattle.std.specs.Prelude.{ℕ, cond, eqb, ltb}
use Rattle.refusal.specs.Rules.{◌when◌else◌}
use Rattle.refusal.specs.Steps.{Reply, reply}
use Rattle.manifest_slot.specs.declared.Role.{Role}

abbrev pub role_of : ℕ → Role
role_of n = cond (eqb n 0) Role.Active Role.Pending

unfoldable pub role_reply : ℕ → Reply Role
role_reply n = reply (5 when ltb 1 n else 0) (role_of n)
