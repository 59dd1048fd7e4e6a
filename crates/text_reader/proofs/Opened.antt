-- To unfold `opened` is to unfold every definition of a text's lines, for a proof by computation.
use Rattle.text_reader.specs.Field.{digit, digits, shift, decimal, is_numeral, field_of}
use Rattle.text_reader.specs.Lines.{in_front, split, letter_of, line_of, lines_of, lines, is_number, all_numbers, is_record, starts_as, number_of, number}

unfoldable pub opened : Unit {0}
unfolding digit digits shift decimal is_numeral field_of in_front split letter_of line_of lines_of lines is_number all_numbers is_record starts_as number_of number
opened = tt
