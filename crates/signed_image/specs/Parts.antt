-- An element taken apart: its fields, its hash and its regions.
use Rattle.std.specs.Prelude.{ℕ, List}
use Rattle.signed_image.specs.declared.Parts.{Parts}
use Rattle.signed_image.specs.SignedImage.{ImageFields, image_fields_of, image_fields, hash_of, regions_of}

abbrev pub image_parts_of : Parts → ImageFields × List ℕ × List ℕ
image_parts_of p = (image_fields_of p.image, p.hash.now, p.regions.now)

abbrev pub image_parts : List ℕ → ImageFields × List ℕ × List ℕ
image_parts b = (image_fields b, hash_of b, regions_of b)
