use Rattle.std.proofs.Common.{rules, ◌∙◌, ◌++◌}
use Rattle.hex_text.proofs.Shown.{run_more}
use Rattle.hex_text.proofs.HexDisplay.fmt.Goals as goal

pub loop-run-preserved : goal.loop-run-preserved
loop-run-preserved g c = λ plain.
    let p = c.loop-run.invariant plain in
    let more = run_more g.W.Write.write_str_gives c.args.f.now c.loop-run.f c.write_str.new.self p.0 c.run_text.result.now c.in-Some.run'.now
    c.loop-run.run-iterator.rest.now c.next.new.self.rest.now c.run_text.ensures (search rules) p.1 (search rules) in
    (p.0 ++ c.run_text.result.now, more.0, more.1 ∙ p.2)
