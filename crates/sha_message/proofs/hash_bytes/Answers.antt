use Rattle.std.proofs.Common.{map, ap, arith, ◌∙◌}
use Rattle.fips180.specs.Padding.{big_endian}
use Rattle.fips180.proofs.Stores.{written_none, written_more}
use Rattle.sha_words.proofs.Numbers.{element}
use Rattle.sha_message.proofs.hash_bytes.Goals as goal

pub loop-i-init : goal.loop-i-init
loop-i-init g c =
    let few = g.met.W.Word.sizes.few in
    written_none g.W.Word.family (map g.W.Word.number c.args.s.now) _ g.row.B (omega arith)

pub loop-i-preserved : goal.loop-i-preserved
loop-i-preserved g c =
    let n = g.W.Word.number in
    let s = c.args.s.now in
    let l = c.loop-i in
    let b = g.row.B in
    let h = c.loop-i-test.true in
    written_more g.W.Word.family (map n s) l.out b l.i g.met.W.Word.sizes.bytes (omega arith) l.invariant
    (c.to_be_bytes.ensures ∙ ap (big_endian b) (element n s l.i c.index-s-i.result (omega arith))) c.put.ensures
