-- Sets computed by the checker: `unfolding` this one name opens all that they are made of.
use lib.Count.{ones}
use Rattle.sets.specs.Scans.{most_scans, word, wordwise, every, word_of, digit_of, digits_below, empty, only, ◌∪◌, holds, within, strictly_within, is_empty, fits, first_word, of_first_word}
use Rattle.sets.specs.Acceptors.{most_acceptors, none, includes, with_one, together, fits_run, size, majority, is_majority}

unfoldable pub open_sets : Unit {0}
unfolding ones most_scans word wordwise every word_of digit_of digits_below empty only ◌∪◌ holds within strictly_within is_empty fits first_word of_first_word most_acceptors none includes with_one together fits_run size majority is_majority
open_sets = tt
