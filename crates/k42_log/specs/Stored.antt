-- What is stored of details, and how many more there is room for.
use Rattle.std.specs.Prelude.{◌-◌, length, vec_capacity}
use Rattle.k42_kinds.specs.declared.packed.Size.{Size}
use Rattle.k42_log.specs.declared.stored.Stored.{Stored}
use Rattle.k42_log.specs.Details.{Details}

abbrev pub details_in : Stored → Details
details_in stored = record { words = stored.words.items; bytes = stored.bytes.items }

abbrev pub spare_in : Stored → Size
spare_in stored = record {
  words = vec_capacity stored.words - length stored.words.items;
  bytes = vec_capacity stored.bytes - length stored.bytes.items;
}
