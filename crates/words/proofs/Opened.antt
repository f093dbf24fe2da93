-- What the worked examples compute with. To unfold one of these names is to unfold all that its
-- line names.
use Rattle.std.specs.Fmt.{digits}
use Rattle.hex.specs.Hex.{encode_with}
use Rattle.words.specs.Numbers.{mark, two_digits, three_digits, six_digits, pointed}
use Rattle.words.specs.Quality.{validity, origin, point_quality, quality}
use Rattle.words.specs.Values.{single_words, double_words, position_words, step_words, bits_words}
use Rattle.words.specs.Values.{fraction_text, normalised_text, normalised_words, scaled_words}
use Rattle.words.specs.Values.{size_text, float_text, float_words, counter_marks, sequence_text}
use Rattle.words.specs.Values.{counter_words, initialisation, initialised_words, qu_text, qualifier}
use Rattle.words.specs.Values.{single_command, double_command, step_command, ql_text}
use Rattle.words.specs.Values.{set_point_qualifier, normalised_set_point, scaled_set_point}
use Rattle.words.specs.Values.{interrogation, words_of, value_words}
use Rattle.words.specs.Units.{named, type_text, cause_text, cause_words, originator_text, ca_text}
use Rattle.words.specs.Units.{kind_words, place_words, header_words, object_words, parting, reason}
use Rattle.words.specs.Units.{reason_words, typed_words, content_by, content_words, asdu_words}
use Rattle.words.specs.Units.{data_words}
use Rattle.words.specs.Faults.{rest_words, cut_off, no_frame}
use Rattle.words.specs.Lines.{primary_name, secondary_name, fcb_text, demand_text, asked_words}
use Rattle.words.specs.Lines.{answered_words, control_words, frame_words, fault_of, front_words}
use Rattle.words.specs.Connections.{numbers_words, apdu_words, fault_of as apdu_fault_of}
use Rattle.words.specs.Connections.{front_words as apdu_front_words}

unfoldable pub numbers_open : Unit {0}
unfolding digits mark two_digits three_digits six_digits pointed
numbers_open = tt

unfoldable pub values_open : Unit {0}
unfolding numbers_open encode_with validity origin point_quality quality single_words double_words
    position_words step_words bits_words fraction_text normalised_text normalised_words scaled_words
    size_text float_text float_words counter_marks sequence_text counter_words initialisation
    initialised_words qu_text qualifier single_command double_command step_command ql_text
    set_point_qualifier normalised_set_point scaled_set_point interrogation words_of value_words
values_open = tt

unfoldable pub units_open : Unit {0}
unfolding digits named type_text cause_text cause_words originator_text ca_text kind_words
    place_words header_words object_words parting reason reason_words typed_words content_by
    content_words asdu_words data_words
units_open = tt

unfoldable pub frames_open : Unit {0}
unfolding units_open rest_words cut_off no_frame primary_name secondary_name fcb_text demand_text
    asked_words answered_words control_words frame_words fault_of front_words numbers_words
    apdu_words apdu_fault_of apdu_front_words
frames_open = tt
