use Rattle.std.proofs.Common.{ℕ, ◌+◌, ◌-◌, ◌*◌, ◌≡◌, take, drop, ap, sym, arith, ◌∙◌}
use Rattle.fips180.specs.Padding.{word_at, from_big}
use Rattle.sha_blocks.proofs.schedule.word.Goals as goal

pub returns : goal.returns
unfolding word_at
returns g c =
    let a = c.args in
    let b : ℕ = g.row.B in
    let whole = rw c.unwrap-bytes.ensures at c.try_from.ensures.1 in
    let size = g.met.W.Word.sizes.bytes in
    let e : a.j * b + b - a.j * b ≡ b = omega arith in
    c.from_be_bytes.ensures
    ∙ ap (from_big 0) (whole.same ∙ ap (λ (k : ℕ). take k (drop (a.j * b) a.b.now)) e ∙ ap (λ (k : ℕ). take k (drop (a.j * k) a.b.now)) (sym size))
