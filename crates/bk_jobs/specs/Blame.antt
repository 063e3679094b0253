-- What the sources of a job give where the bytes are to blame for its end.
use Rattle.std.specs.Prelude.{◌≡◌, ◌⊎◌, ℕ, List, Err, IfSome}
use Rattle.bk_answer.specs.RunReport.{IsStopIn, IsStopped}
use Rattle.bk_chain.specs.Chain.{HasLinksFault}
use Rattle.bk_commit.specs.Growth.{IsPrefix}
use Rattle.bk_results.specs.declared.fault.Fault.{Fault}
use Rattle.bk_script.specs.Script.{LineFault, feed_of}
use Rattle.bk_tables.specs.Listing.{ids_of}
use Rattle.bk_tail.specs.Tailing.{OfWholeFrames}
use Rattle.bk_cli.specs.declared.exit.Exit.{Exit}
use Rattle.bk_cli.specs.declared.exit.Exit.TheVariants as exit
use Rattle.bk_cli.specs.declared.job.Job.{Job}
use Rattle.bk_cli.specs.declared.job.Job.TheVariants as job
use Rattle.bk_jobs.specs.Comparisons.{AreStoppedTogether, AreWrongTogether}
use Rattle.bk_jobs.specs.Schedules.{AreNoEvents, AreRefused}
use Rattle.bk_jobs.specs.Sources.{AreBroken, Inputs}

-- the bytes have a fault of a script
abbrev pub MakeNoFeed : List ℕ → Type 0
MakeNoFeed bytes = (found : LineFault) × (feed_of bytes ≡ Err found)

-- the sources of a schedule are wrong: the first is no feed; the second is no list of events; or it is one, of which an
-- event is refused
abbrev pub AreWrongFor : ℕ → Inputs → Type 0
AreWrongFor workers given =
    IfSome given.first AreBroken ⊎ IfSome given.second AreNoEvents
    ⊎ IfSome given.second (λ text. IfSome given.first (λ bytes. AreRefused workers bytes text))

-- the text is no list of accounts; the text is none of links
abbrev pub AreNoAccounts : List ℕ → Type 0
AreNoAccounts bytes = (line : ℕ) × (ids_of bytes ≡ Err line)

abbrev pub AreNoLinks : List ℕ → Type 0
AreNoLinks bytes = (line : ℕ) × HasLinksFault bytes line

-- what the sources give is wrong for a job
abbrev pub AreWrong : Job → Inputs → Type 0
AreWrong (job.Run workers file) given = IfSome given.first AreBroken
AreWrong (job.Make file) given = IfSome given.first MakeNoFeed
AreWrong (job.CheckProof root account file) given = ⊥
AreWrong (job.Ask workers asked file) given = IfSome given.first AreBroken
AreWrong (job.CheckReport workers report file) given = IfSome given.first AreBroken
AreWrong (job.Frames file) given = IfSome given.first AreBroken
AreWrong (job.Summary workers file) given = IfSome given.first AreBroken
AreWrong (job.Dag window file) given = IfSome given.first AreBroken
AreWrong (job.Apply file) given = IfSome given.first AreBroken
AreWrong (job.Schedule workers feed events) given = AreWrongFor workers given
AreWrong (job.Compare first second) given = AreWrongTogether given
AreWrong (job.Show workers shown file) given = IfSome given.first AreBroken
AreWrong (job.Pick workers shown accounts file) given = IfSome given.first AreBroken ⊎ IfSome given.second AreNoAccounts
AreWrong (job.Follow workers shown accounts wait file) given =
    IfSome given.first AreBroken ⊎ IfSome given.second AreNoAccounts
AreWrong (job.Diagnose d file) given = IfSome given.first AreBroken
AreWrong (job.CheckChain file) given = IfSome given.first AreNoLinks

-- the bytes are stopped by a collision or by twins
abbrev pub AreStopped : List ℕ → Type 0
AreStopped bytes = (found : Fault) × IsStopped bytes found

-- the whole frames of some first bytes are stopped so
abbrev pub AreStoppedAhead : List ℕ → Type 0
AreStoppedAhead bytes =
    (part : List ℕ) × IsPrefix part bytes × (found : Fault) × OfWholeFrames part (λ feed. IsStopIn feed found)

-- what the sources give is stopped, for a job that finds an order
abbrev pub AreStoppedFor : Job → Inputs → Type 0
AreStoppedFor (job.Run workers file) given = IfSome given.first AreStopped
AreStoppedFor (job.Ask workers asked file) given = IfSome given.first AreStopped
AreStoppedFor (job.CheckReport workers report file) given = IfSome given.first AreStopped
AreStoppedFor (job.Summary workers file) given = IfSome given.first AreStopped
AreStoppedFor (job.Dag window file) given = IfSome given.first AreStopped
AreStoppedFor (job.Compare first second) given = AreStoppedTogether given
AreStoppedFor (job.Show workers shown file) given = IfSome given.first AreStopped
AreStoppedFor (job.Pick workers shown accounts file) given = IfSome given.first AreStopped
AreStoppedFor (job.Follow workers shown accounts wait file) given = IfSome given.first AreStoppedAhead
AreStoppedFor (job.Diagnose d file) given = IfSome given.first AreStopped
AreStoppedFor other given = ⊥

-- what bytes to blame are like, by the exit
abbrev pub AreToBlame : Job → Exit → Inputs → Type 0
AreToBlame j exit.WrongInput given = AreWrong j given
AreToBlame j exit.Stopped given = AreStoppedFor j given
AreToBlame j other given = ⊥
