use Rattle.std.proofs.Common.{◌≡◌, map, take}
use Rattle.access_paths.specs.Labels.{path_words}
use Rattle.access_paths.specs.inner.Paths.{as_paths}
use Rattle.access_paths.proofs.block_labels.words_of_paths.Given as goal

abbrev pub invariant-loop-path : goal.invariant-loop-path
invariant-loop-path l = l.items.items ≡ map path_words (as_paths (take l.path-index l.paths))
