use Prim.Native.Nat.{ℕ}
use mathlib.Core.List.{List}
use mathlib.Core.Path.{sym, ap, ◌∙◌}
use Rattle.calendar.specs.Dates.{date_of, is_found}
use Rattle.layout.specs.Layouts.{row_at, table, layout_of}
use Rattle.record.proofs.fast.is_dated.Goals as goal

pub returns-then-not-is_date_text : goal.returns-then-not-is_date_text
unfolding row_at table layout_of
returns-then-not-is_date_text c = rw (sym (ap (λ (l : List ℕ). is_found (date_of l)) c.field_bytes.ensures) ∙ sym c.is_date_text.ensures ∙ c.if-not-is_date_text.true)

pub returns : goal.returns
unfolding row_at table layout_of
returns c =
    let date = ap (λ (l : List ℕ). is_found (date_of l)) c.field_bytes.ensures in
    let is_one = sym date ∙ sym c.is_date_text.ensures ∙ c.if-not-is_date_text.false in
    rw is_one (c.is_date_text-2.ensures ∙ ap (λ (l : List ℕ). is_found (date_of l)) c.field_bytes-2.ensures)
