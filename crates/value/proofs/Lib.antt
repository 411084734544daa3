mod Numbers
mod Parts
