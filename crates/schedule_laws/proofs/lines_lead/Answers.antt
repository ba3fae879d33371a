use Rattle.schedule_laws.proofs.Leads.{schedule_leads}
use Rattle.schedule_laws.proofs.lines_lead.Goals as goal

pub returns : goal.returns
returns c = schedule_leads
