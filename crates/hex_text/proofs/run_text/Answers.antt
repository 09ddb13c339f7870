use Rattle.std.proofs.Common.{rules, refl, ◌∙◌, arith}
use Rattle.std.proofs.lemmas.Str.{IsUtf8-from_ascii}
use Rattle.std.proofs.lemmas.Str.Ascii.{IsAscii-nil}
use Rattle.hex_text.specs.HexText.{hex_text}
use Rattle.hex_text.proofs.Shown.{utf8_next, more_put, all_put}
use Rattle.hex_text.proofs.run_text.Goals as goal

pub loop-i-init : goal.loop-i-init
unfolding hex_text
loop-i-init c = (search rules, refl, IsUtf8-from_ascii _ IsAscii-nil)

pub loop-i-preserved : goal.loop-i-preserved
loop-i-preserved c =
    let l = c.loop-i in
    let run = c.args.run.now in
    let next = more_put run l.digits c.put.new.dst c.byte_text.result l.i (omega arith) (omega arith) c.byte_text.ensures c.put.ensures l.invariant.1 in (
      next.0 ∙ l.invariant.0,
      next.1,
      utf8_next run l.i (omega arith) (search rules) l.invariant.2,
    )

pub unwrap-requires : goal.unwrap-requires
unwrap-requires c =
    let l = c.loop-i in
    let all = all_put c.args.run.now l.digits l.i (omega arith) c.loop-i-test.false l.invariant.1 l.invariant.2 in
    let utf8 = all.1 in
    search rules

pub returns : goal.returns
returns c =
    let l = c.loop-i in
    let all = all_put c.args.run.now l.digits l.i (omega arith) c.loop-i-test.false l.invariant.1 l.invariant.2 in
    let put = all.0 in
    let utf8 = all.1 in
    search rules
