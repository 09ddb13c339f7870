use Rattle.std.proofs.Common.{ℕ, sym}
use lib.ListN.{length-replicate}
use Rattle.fips180_vectors.proofs.published.million_a.Goals as goal

pub returns : goal.returns
returns c = sym (length-replicate {A = ℕ} 1000000 97)
