-- The lines of a script, the header first.
use Rattle.std.proofs.Common.{◌≡◌, ℕ, ◌+◌, ◌∙◌, Bool, true, false, List, [], ◌∷◌, Option, Some, None, zero, suc, length, take, ◌≤◌, arith, MatchOption, refl, ap, sym, subst}
use Rattle.std.specs.Borrow.{Bor}
use Rattle.line_text.specs.Lines.{text_fault}
use Rattle.line_text.specs.declared.reason.Reason.{Reason}
use Rattle.queue_keys.specs.Names.{Bytes}
use Rattle.command_blocks.specs.Scripts.{Plan}
use Rattle.schedule_model.specs.Schedules.{max_line}
use Rattle.publish_script.specs.Readings.{from_first}
use Rattle.publish_script.specs.Scripts.{Blocks, Noted, PublishScript, Says, ScriptReader, ScriptStep, Wrong, Wrong_line, behind_header, cut_fault, header_reason, header_script, is_cut_before, line_step, lines_script, new_reader, plan_before, script_on, unless_long}

-- what is left when a line more was asked for
pub left_first : (first : Option (ℕ × Bor Bytes)) (mid rest : List (ℕ × Bytes)) → MatchOption first ((mid ≡ []) × (rest ≡ [])) (λ x. mid ≡ (x.0, x.1.now) ∷ rest) → mid ≡ from_first first rest
left_first None mid rest given = given.0
left_first (Some x) mid rest given = given

-- whether the input is cut off before what is left
pub cut_at_none : (cut : Bool) (o : Option (ℕ × Bor Bytes)) (rest : List (ℕ × Bytes)) → o ≡ None → cut ≡ is_cut_before cut (from_first o rest)
cut_at_none true None rest e = refl
cut_at_none false None rest e = refl
cut_at_none cut (Some x) rest e = cc

pub cut_at_some : (cut : Bool) (o : Option (ℕ × Bor Bytes)) (x : ℕ × Bor Bytes) (rest : List (ℕ × Bytes)) → o ≡ Some x → false ≡ is_cut_before cut (from_first o rest)
cut_at_some cut None x rest e = cc
cut_at_some true (Some y) x rest e = refl
cut_at_some false (Some y) x rest e = refl

-- the header with what was asked for behind it
pub header_by : (s : ℕ) (cut : Bool) (all mid rest : List (ℕ × Bytes)) (n : ℕ) (h : Bytes) (first : Option (ℕ × Bor Bytes)) → all ≡ (n, h) ∷ mid → MatchOption first ((mid ≡ []) × (rest ≡ [])) (λ x. mid ≡ (x.0, x.1.now) ∷ rest)
    → header_script s cut all ≡ behind_header s cut (from_first first rest) (cut_fault (is_cut_before cut (from_first first rest)) (header_reason h (text_fault max_line h)))
header_by s cut all mid rest n h first is steps = ap (header_script s cut) (is ∙ ap (λ m. (n, h) ∷ m) (left_first first mid rest steps))

-- where it is none
pub header_wrong : (s : ℕ) (cut : Bool) (all mid rest : List (ℕ × Bytes)) (n : ℕ) (h : Bytes) (first : Option (ℕ × Bor Bytes)) (b : Bool) (fault : Option Reason) (r : Reason) → all ≡ (n, h) ∷ mid → MatchOption first ((mid ≡ []) × (rest ≡ [])) (λ x. mid ≡ (x.0, x.1.now) ∷ rest)
    → b ≡ is_cut_before cut (from_first first rest) → fault ≡ cut_fault b (header_reason h (text_fault max_line h)) → fault ≡ Some r → header_script s cut all ≡ Wrong_line 1 r
header_wrong s cut all mid rest n h first b fault r is steps same told found =
    header_by s cut all mid rest n h first is steps ∙ ap (behind_header s cut (from_first first rest)) (ap (λ c. cut_fault c (header_reason h (text_fault max_line h))) (sym same) ∙ sym told ∙ found)

pub cut_none : (cut : Bool) → cut ≡ is_cut_before cut []
cut_none true = refl
cut_none false = refl

pub cut_some : (cut : Bool) (l : ℕ × Bytes) (ls : List (ℕ × Bytes)) → false ≡ is_cut_before cut (l ∷ ls)
cut_some true l ls = refl
cut_some false l ls = refl

-- ---- what is read of an input

whole_front : (n : ℕ) (bytes : Bytes) → length bytes ≤ n → take n bytes ≡ bytes
whole_front zero [] short = refl
whole_front zero (b ∷ bs) short = absurd (omega arith)
whole_front (suc n) [] short = refl
whole_front (suc n) (b ∷ bs) short = ap (λ l. b ∷ l) (whole_front n bs (omega arith))

-- an input within the limit is read whole
pub uncut : (limit : ℕ) (bytes text : Bytes) → text ≡ bytes → length bytes ≤ limit → text ≡ take (limit + 1) bytes
uncut limit bytes text same short = same ∙ sym (whole_front (limit + 1) bytes (omega arith))

-- ---- scripts of which no line is bad

blocks_plan : (p : Plan) (r q : PublishScript) (ps : List Plan) → ((more : List Plan) → r ≡ Blocks more → q ≡ Blocks more) → plan_before p r ≡ Blocks ps → plan_before p q ≡ Blocks ps
blocks_plan p (Blocks more) q ps h e = ap (plan_before p) (h more refl) ∙ e
blocks_plan p (Wrong_line n r) q ps h e = cc

-- where no line is bad, the input isn't cut off
on_uncut : (f g : ScriptReader → PublishScript) (n : ℕ) (step : ScriptStep) (ps : List Plan) → ((e : ScriptReader) (more : List Plan) → f e ≡ Blocks more → g e ≡ Blocks more) → script_on f n step ≡ Blocks ps → script_on g n step ≡ Blocks ps
on_uncut f g n (Noted r) ps h e = h r ps e
on_uncut f g n (Says r p) ps h e = blocks_plan p (f r) (g r) ps (h r) e
on_uncut f g n (Wrong r) ps h e = cc

unless : (f g : ScriptReader → PublishScript) (n : ℕ) (b : Bool) (step : ScriptStep) (ps : List Plan) → ((e : ScriptReader) (more : List Plan) → f e ≡ Blocks more → g e ≡ Blocks more) → script_on f n (unless_long b step) ≡ Blocks ps → script_on g n step ≡ Blocks ps
unless f g n true step ps h e = cc
unless f g n false step ps h e = on_uncut f g n step ps h e

pub lines_uncut : (s : ℕ) (cut : Bool) (d : ScriptReader) (ls : List (ℕ × Bytes)) (ps : List Plan) → lines_script s cut d ls ≡ Blocks ps → lines_script s false d ls ≡ Blocks ps
lines_uncut s cut d [] ps e = e
lines_uncut s cut d (l ∷ ls) ps e =
    unless (λ r. lines_script s cut r ls) (λ r. lines_script s false r ls) l.0 (is_cut_before cut ls) (line_step s d l.1) ps (λ r more. lines_uncut s cut r ls more) e

behind : (s : ℕ) (cut : Bool) (ls : List (ℕ × Bytes)) (o : Option Reason) (ps : List Plan) → behind_header s cut ls o ≡ Blocks ps → lines_script s false new_reader ls ≡ Blocks ps
behind s cut ls None ps e = lines_uncut s cut new_reader ls ps e
behind s cut ls (Some r) ps e = cc

-- the lines behind the header of a script of which no line is bad say its blocks
pub header_good : (s : ℕ) (cut : Bool) (all : List (ℕ × Bytes)) (o : Option (ℕ × Bor Bytes)) (rest : List (ℕ × Bytes)) (ps : List Plan) → header_script s cut all ≡ Blocks ps → MatchOption o ((all ≡ []) × (rest ≡ [])) (λ x. all ≡ (x.0, x.1.now) ∷ rest)
    → lines_script s false new_reader rest ≡ Blocks ps
header_good s cut [] None rest ps e given = cc
header_good s cut [] (Some x) rest ps e given = absurd (cc given)
header_good s cut (h ∷ ls) None rest ps e given = absurd (cc (given.0))
header_good s cut (h ∷ ls) (Some x) rest ps e given =
    let same : ls ≡ rest = cc in
    subst (λ l. lines_script s false new_reader l ≡ Blocks ps) same (behind s cut ls (cut_fault (is_cut_before cut ls) (header_reason h.1 (text_fault max_line h.1))) ps e)
