-- `put_terms`: the lines of the events that are left to be given are left to be written, and they are no more than the ones that are not used up.
use Rattle.std.specs.Iterator.Adapters.{take_source, take_count}
use Rattle.events.specs.Bits.{bits_of}
use Rattle.calendars.specs.CalendarText.{term_lines}
use Rattle.calendars.specs.CalendarTextLaws.{TermsLeft}
use Rattle.calendars.proofs.print.put_terms.Given as goal

abbrev pub invariant-loop-e : goal.invariant-loop-e
invariant-loop-e l =
    TermsLeft l.jobs l.key l.cs l.row l.count l.initial.out l.at (term_lines l.jobs l.key (bits_of l.fn.set) l.cs l.row 0 l.count) l.out l.end (take_source l.e-iterator)
    (take_count l.e-iterator)
