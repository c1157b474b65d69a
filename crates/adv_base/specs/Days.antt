-- Days as ISO 8601 writes them.
use Rattle.std.specs.Prelude.{ℕ, ◌+◌, ◌-◌, ◌*◌, Bool, ◌==◌, ◌&&◌, nat_le, if◌then◌else◌, ℤ, pos, List, length, slice_index, Option, Some, None, option_and_then}
use Rattle.std.specs.Char.{is_ascii_digit}
use Rattle.jiff_core.specs.Calendar.{days_in_month, days_from_civil}

-- the number that two decimal digits write
abbrev pub two_digits : ℕ → ℕ → Option ℕ
two_digits tens ones = if is_ascii_digit tens && is_ascii_digit ones then Some (10 * (tens - 48) + (ones - 48)) else None

-- the calendar has this day
abbrev pub is_calendar_day : ℕ → ℕ → ℕ → Bool
is_calendar_day year month day = nat_le 1 month && nat_le month 12 && nat_le 1 day && nat_le day (days_in_month (pos year) month)

-- the number of a day of the calendar, counted from 1970-01-01
unfoldable pub calendar_day : ℕ → ℕ → ℕ → Option ℤ
calendar_day year month day = if is_calendar_day year month day then Some (days_from_civil (pos year) month day) else None

-- the number that the two digits at a place write
abbrev pub digits_at : List ℕ → ℕ → Option ℕ
digits_at text at = two_digits (slice_index text at) (slice_index text (at + 1))

-- the day that the digits of `yyyy-mm-dd` name
abbrev pub day_of_digits : List ℕ → Option ℤ
day_of_digits text =
    option_and_then (λ century. option_and_then (λ year. option_and_then (λ month. option_and_then (λ day.
    calendar_day (100 * century + year) month day)
    (digits_at text 8)) (digits_at text 5)) (digits_at text 2)) (digits_at text 0)

-- the day that ten bytes name, of which the fifth and the eighth are dashes
abbrev pub day_number : List ℕ → Option ℤ
day_number text =
    if (length text == 10) && (slice_index text 4 == 45) && (slice_index text 7 == 45) then day_of_digits text else None
