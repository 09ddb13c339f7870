use mathlib.Core.Path.{sym, ◌∙◌}
use native.Mathlib.Omega.{arith}
use borrow.Author.Tests.{eq-eqb, ne_eqb}
use Rattle.hex_text.proofs.Comparison.{other_length, same_end, first_differs, second_differs, byte_same}
use Rattle.hex_text.proofs.same.Goals as goal

pub returns-then-text-ne0 : goal.returns-then-text-ne0
returns-then-text-ne0 c =
    let a = c.args in
    sym (other_length a.bytes.now a.text.now (λ e. c.if-text-ne0.true (omega arith)))

pub returns-then-text-bytes : goal.returns-then-text-bytes
returns-then-text-bytes c =
    let a = c.args in
    sym (other_length a.bytes.now a.text.now (λ e. c.if-text-bytes.true (omega arith)))

pub returns-then-digits-text : goal.returns-then-digits-text
returns-then-digits-text c =
    let a = c.args in
    let d = c.byte_text-digits in
    let first = ne_eqb _ _ c.if-digits-text.true in
    sym (sym c.loop-i.invariant ∙ first_differs a.bytes.now a.text.now d.result c.loop-i.i (omega arith) (omega arith) d.ensures first)

pub returns-then-digits-text-2 : goal.returns-then-digits-text-2
returns-then-digits-text-2 c =
    let a = c.args in
    let d = c.byte_text-digits in
    let first = eq-eqb _ _ c.if-digits-text.false in
    let second = ne_eqb _ _ c.if-digits-text-2.true in
    sym (sym c.loop-i.invariant ∙ second_differs a.bytes.now a.text.now d.result c.loop-i.i (omega arith) (omega arith) d.ensures first second)

pub loop-i-preserved : goal.loop-i-preserved
loop-i-preserved c =
    let a = c.args in
    let d = c.byte_text-digits in
    let first = eq-eqb _ _ c.if-digits-text.false in
    let second = eq-eqb _ _ c.if-digits-text-2.false in
    sym (byte_same a.bytes.now a.text.now d.result c.loop-i.i (omega arith) (omega arith) d.ensures first second) ∙ c.loop-i.invariant

pub returns : goal.returns
returns c =
    let a = c.args in
    sym (sym c.loop-i.invariant ∙ same_end a.bytes.now a.text.now c.loop-i.i (omega arith) (omega arith))
