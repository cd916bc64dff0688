-- Laws, each file after those that it rests on; the claims are gathered in Claims. RenameRoutes, RenameRules and RenameSearch are about plans and searches
-- alone; RecordBytes to FormAccepted about the records of any content that fits; ContentPlaces to ContentOfPlan about the content of a plan; the Write files
-- about the writer.
pub mod ContentFits
pub mod RenameRoutes
pub mod RenameRules
pub mod RenameSearch
pub mod Query
pub mod RecordBytes
pub mod FormRecords
pub mod FormPlan
pub mod FormLinks
pub mod FormAccepted
pub mod ContentPlaces
pub mod ContentSize
pub mod ContentOfPlan
pub mod WriteRecords
pub mod WriteIndices
pub mod WriteBelts
pub mod WriteRules
pub mod WriteAnswer
pub mod Claims
