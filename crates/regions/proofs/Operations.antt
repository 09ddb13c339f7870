-- An operation in two bits.
use Prim.Native.Nat.{ℕ, zero, suc, ◌<◌, ◌^◌}
use mathlib.Core.Path.{◌≡◌, refl, sym, ap, ◌∙◌}
use mathlib.Core.Bool.{false}
use lib.Dec.{lit<}
use Rattle.regions.specs.declared.rw_region.Operation.{Operation}
use Rattle.regions.specs.declared.rw_region.Operation.TheVariants.{Nothing, Restore, Erase, Reserved}
use Rattle.regions.specs.RwRegion.{operation_number, bad_operation}

pub operation_small : (o : Operation) → operation_number o < 2 ^ 2
operation_small Nothing = lit< tt
operation_small Restore = lit< tt
operation_small Erase = lit< tt
operation_small Reserved = lit< tt

pub operation_good : (o : Operation) → bad_operation (operation_number o) ≡ false
operation_good Nothing = refl
operation_good Restore = refl
operation_good Erase = refl
operation_good Reserved = refl

-- the operation with this number, where there is one
abbrev numbered : ℕ → Operation
numbered zero = Nothing
numbered (suc zero) = Restore
numbered (suc (suc zero)) = Erase
numbered (suc (suc (suc n))) = Reserved

numbered_back : (o : Operation) → numbered (operation_number o) ≡ o
numbered_back Nothing = refl
numbered_back Restore = refl
numbered_back Erase = refl
numbered_back Reserved = refl

-- a number fixes its operation
pub operation_injective : (o p : Operation) → operation_number o ≡ operation_number p → o ≡ p
operation_injective o p e = sym (numbered_back o) ∙ ap numbered e ∙ numbered_back p
