-- The lines in which faults are printed.
use Rattle.std.specs.Prelude.{◌++◌, ℕ, List, codes}
use Rattle.std.specs.Fmt.{decimal}
use Rattle.text_words.specs.Told.{told}
use Rattle.text_words.specs.declared.report.Report.{Report}
use Rattle.text_words.specs.declared.report.Report.TheVariants as report

-- the name of a standard stream
abbrev pub standard : List ℕ
standard = codes "-"

-- a fault of the file of a name, and one of the line of a number
abbrev pub of_file : List ℕ → List ℕ → List ℕ
of_file name fault = codes "file " ++ told name ++ codes ": " ++ fault

abbrev pub of_line : ℕ → List ℕ → List ℕ
of_line n fault = codes "line " ++ decimal n ++ codes ": " ++ fault

-- what is printed
abbrev pub report_text : Report → List ℕ
report_text (report.File name fault) = of_file name.now fault.now
report_text (report.Line n fault) = of_line n fault.now
