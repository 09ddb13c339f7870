use Rattle.std.proofs.Common.{ℕ, ◌*◌, ◌/◌, ◌≡◌, List, length, map, ap, sym, arith, ◌∙◌}
use Rattle.fips180.specs.Family.{block_bytes}
use Rattle.fips180.specs.Hash.{hash_value}
use Rattle.fips180.proofs.Continued.{blocks_none, blocks_next}
use Rattle.sha_blocks.proofs.whole_blocks.Goals as goal

pub loop-b-init : goal.loop-b-init
unfolding block_bytes
loop-b-init g c =
    let f = g.W.Word.family in
    let bytes = g.met.W.Word.sizes.bytes in
    let chunks = c.chunks_exact-b-items.ensures in
    let same = c.into_iter-b-iterator.ensures.into_iter_gives in
    let size : 16 * g.row.B ≡ block_bytes f = omega arith in (
      ap (λ (i : _). i.size) same ∙ chunks.size ∙ size,
      ap (λ (r : List ℕ). hash_value f (map g.W.Word.number c.args.s.now) r (length r / block_bytes f)) (ap (λ (i : _). i.rest.now) same ∙ chunks.rest),
    )

pub loop-b-preserved : goal.loop-b-preserved
loop-b-preserved g c =
    let f = g.W.Word.family in
    let n = g.W.Word.number in
    let l = c.loop-b in
    let size = g.met.W.Word.sizes in
    let step = c.in-Some.ensures.steps in (
      step.0 ∙ l.invariant.0,
      blocks_next f (omega arith) (map n l.s) c.in-Some.b.now c.next.new.self.rest.now (step.1.1 ∙ l.invariant.0) c.update.ensures
          ∙ ap (λ (r : List ℕ). hash_value f (map n l.s) r (length r / block_bytes f)) (sym step.1.0)
          ∙ l.invariant.1,
    )

pub returns : goal.returns
unfolding block_bytes
returns g c =
    let f = g.W.Word.family in
    let n = g.W.Word.number in
    let l = c.loop-b in
    let a = c.args in
    let bytes = g.met.W.Word.sizes.bytes in
    let some = g.met.W.Word.sizes.some in
    let short = c.in-None.ensures.steps.1.0 in
    let size : block_bytes f ≡ 16 * g.row.B = omega arith in
    sym (blocks_none f (omega arith) (map n l.s) l.b-iterator.rest.now (omega (arith, l.invariant.0)))
    ∙ l.invariant.1
    ∙ ap (λ (b : ℕ). hash_value f (map n a.s.now) a.m.now (length a.m.now / b)) size
