use Rattle.std.proofs.Common.{ℕ, ◌+◌, ◌*◌, ◌≤◌, List, length, take, take-take, ap, sym, rules, ◌∙◌}
use Rattle.octets.proofs.Parts.{bytes_at_whole}
use Rattle.fips180.specs.Hash.{word_bytes_of}
use Rattle.sha_message.proofs.digest.Goals as goal

pub returns : goal.returns
returns g c = λ k e l.
    let f = g.W.Word.family in
    let n : ℕ = g.row.N in
    let whole : List ℕ = c.hash_bytes.result in
    let few = g.met.W.Word.sizes.few in
    let room : 0 + n ≤ length whole = search rules in
    c.bytes_at.ensures
    ∙ bytes_at_whole n whole 0 room
    ∙ sym (take-take n (8 * g.row.B) whole l)
    ∙ ap (take n) (c.hash_bytes.ensures ∙ ap (word_bytes_of f 8) (c.hash_value.ensures k e))
