-- The lines of a table's text, and what is wrong with one whatever its cells are.
use Rattle.std.specs.Prelude.{ℕ, suc, Bool, ◌&&◌, not, nat_lt, if◌then◌else◌, Option, Some, None, List, [], ◌∷◌, length, take, drop}
use Rattle.std.specs.Str.{bytes_eq, is_utf8}
use Rattle.vic_frame.specs.Uids.{has}
use Rattle.vic_log.specs.Lines.{cr, cut, content, lines_of_text}
use Rattle.vic_table.specs.declared.lines.TheConstants.{MAX_TABLE_LINES, MAX_TABLE_LINE_LEN}
use Rattle.vic_table.specs.declared.fault.TableLineFault.{TableLineFault}
use Rattle.vic_table.specs.declared.fault.TableLineFault.TheVariants as fault

-- the mark of UTF-8 at a text's start
abbrev pub mark : List ℕ
mark = 0xEF ∷ 0xBB ∷ 0xBF ∷ []

abbrev pub has_mark : List ℕ → Bool
has_mark text = bytes_eq (take 3 text) mark

abbrev pub without_mark : List ℕ → List ℕ
without_mark text = if has_mark text then drop 3 text else text

-- the lines of a table's text, each without its end
abbrev pub table_lines : List ℕ → List (List ℕ)
table_lines text = lines_of_text (without_mark text)

-- the end of the first of some lines that still have theirs
abbrev pub end_of_first : List (List ℕ) → List ℕ
end_of_first [] = []
end_of_first (part ∷ parts) = drop (length (content part)) part

-- the end of a table's first line: LF, CR and LF, or nothing
abbrev pub first_end : List ℕ → List ℕ
first_end text = end_of_first (cut (without_mark text))

-- UTF-8 without a zero byte, and without a CR that isn't in the line's end
abbrev pub is_text : List ℕ → Bool
is_text line = is_utf8 line && not (has line 0) && not (has line cr)

-- the first fault of the line behind so many lines that any line may have
abbrev pub bytes_fault : ℕ → List ℕ → Option TableLineFault
bytes_fault before line =
    if nat_lt MAX_TABLE_LINES (suc before) then Some fault.TooManyLines
    else if nat_lt MAX_TABLE_LINE_LEN (length line) then Some fault.LineTooLong
    else if is_text line then None
    else Some fault.Utf8
