-- The numbers by which kinds, operations, answers and refusals stand in frames, and back.
use Rattle.std.specs.Prelude.{ℕ, List, [], ◌∷◌, Option, Some, None, nat_eq, cond}
use Rattle.message_values.specs.declared.refusal.Refusal.{Refusal}
use Rattle.message_values.specs.declared.refusal.Refusal.TheVariants as refusal
use Rattle.message_model.specs.declared.codes.Kind.{Kind}
use Rattle.message_model.specs.declared.codes.Kind.TheVariants as kind
use Rattle.message_model.specs.declared.codes.OperationCode.{OperationCode}
use Rattle.message_model.specs.declared.codes.OperationCode.TheVariants as operation
use Rattle.message_model.specs.declared.codes.AnswerCode.{AnswerCode}
use Rattle.message_model.specs.declared.codes.AnswerCode.TheVariants as answer

-- what a table has for a number
abbrev pub listed : {A : Type 0} → List (ℕ × A) → ℕ → Option A
listed [] n = None
listed (e ∷ es) n = cond (nat_eq n e.0) (Some e.1) (listed es n)

abbrev pub kinds : List (ℕ × Kind)
kinds = (1, kind.Call) ∷ (2, kind.Reply) ∷ (3, kind.Write) ∷ (4, kind.Ask) ∷ (5, kind.Turn) ∷ []

abbrev pub kind_of : ℕ → Option Kind
kind_of n = listed kinds n

abbrev pub kind_number : Kind → ℕ
kind_number kind.Call = 1
kind_number kind.Reply = 2
kind_number kind.Write = 3
kind_number kind.Ask = 4
kind_number kind.Turn = 5

abbrev pub operations : List (ℕ × OperationCode)
operations =
    (1, operation.InitNew) ∷ (2, operation.Load) ∷ (3, operation.InPlace) ∷ (4, operation.UiActivate)
    ∷ (5, operation.UiDeactivate)
    ∷ (6, operation.InPlaceDeactivate) ∷ (7, operation.OpenWindow) ∷ (8, operation.Edit) ∷ (9, operation.Save)
    ∷ (10, operation.HandsOff)
    ∷ (11, operation.SaveCompleted) ∷ (12, operation.SaveDropped) ∷ (13, operation.Close) ∷ []

abbrev pub operation_code_of : ℕ → Option OperationCode
operation_code_of n = listed operations n

abbrev pub operation_number : OperationCode → ℕ
operation_number operation.InitNew = 1
operation_number operation.Load = 2
operation_number operation.InPlace = 3
operation_number operation.UiActivate = 4
operation_number operation.UiDeactivate = 5
operation_number operation.InPlaceDeactivate = 6
operation_number operation.OpenWindow = 7
operation_number operation.Edit = 8
operation_number operation.Save = 9
operation_number operation.HandsOff = 10
operation_number operation.SaveCompleted = 11
operation_number operation.SaveDropped = 12
operation_number operation.Close = 13

abbrev pub answers : List (ℕ × AnswerCode)
answers = (0, answer.Done) ∷ (1, answer.Refused) ∷ (2, answer.Content) ∷ (3, answer.Tools) ∷ []

abbrev pub answer_code_of : ℕ → Option AnswerCode
answer_code_of n = listed answers n

abbrev pub answer_number : AnswerCode → ℕ
answer_number answer.Done = 0
answer_number answer.Refused = 1
answer_number answer.Content = 2
answer_number answer.Tools = 3

abbrev pub refusals : List (ℕ × Refusal)
refusals =
    (1, refusal.BadEdit) ∷ (2, refusal.BadContent) ∷ (3, refusal.TooBig) ∷ (11, refusal.AlreadyInitialized)
    ∷ (12, refusal.NotInitialized)
    ∷ (13, refusal.Scribble) ∷ (14, refusal.HandsOff) ∷ (15, refusal.NeedsStorage) ∷ (16, refusal.WrongState) ∷ []

abbrev pub refusal_of : ℕ → Option Refusal
refusal_of n = listed refusals n
