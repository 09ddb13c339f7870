use Rattle.std.proofs.Common.{rules, ◌∙◌}
use Rattle.sha_message.proofs.Zeros.{zeros_flat}
use Rattle.sha_message.proofs.last_blocks.hash_value.Goals as goal

pub last_blocks-requires-after_bounds : goal.last_blocks-requires-after_bounds
last_blocks-requires-after_bounds g c κs = λ within. (search rules, c.as_flattened_mut.ensures.value ∙ zeros_flat 16 g.row.B)
