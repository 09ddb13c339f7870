-- What each impl of `Word` cites.
use Rattle.sha_words.proofs.Width.{shifted, rotated}
use Rattle.sha_words.proofs.Bytes.{read_four, read_eight, written_four, written_eight}

pub ruleset integers = (shifted, rotated, read_four, read_eight, written_four, written_eight)
