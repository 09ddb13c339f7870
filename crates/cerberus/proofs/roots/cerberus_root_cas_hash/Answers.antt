use native.Mathlib.Omega.{arith}
use Rattle.refusal.proofs.Laws.{says_yes}
use Rattle.cerberus.proofs.Parts.{hash_within}
use Rattle.cerberus.proofs.roots.cerberus_root_cas_hash.Goals as goal

pub overflow_mul-offset : goal.overflow_mul-offset
overflow_mul-offset c =
    let a = c.args in
    omega (arith, hash_within a.hash_type a.element.now a.index (says_yes c.hash_verdict.ensures c.in-Ok.is) c.hash_length-width.ensures.length)

pub overflow_add-offset : goal.overflow_add-offset
overflow_add-offset c =
    let a = c.args in
    omega (arith, hash_within a.hash_type a.element.now a.index (says_yes c.hash_verdict.ensures c.in-Ok.is) c.hash_length-width.ensures.length)
